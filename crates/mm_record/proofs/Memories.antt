-- A step over the stores of a memory.
use Rattle.mm_record.proofs.Words.{◌≡◌, ℕ, ◌-◌, ◌<◌, bytes_eq, false, List, [], length, get_or, map, All, Option, Some}
use Rattle.mm_record.proofs.Words.{None, refl, sym, ap, ◌∙◌, arith, AllPairs, get_or-map, length-map, map-map}
use Rattle.mm_record.proofs.Words.{AllPairs-map, SpacePacket, Fault, Held, IsState, Leaves, blank, AreHeld}
use Rattle.mm_record.proofs.Words.{HaveOtherIds, Holdings, labels_of, id_at, AreNamed, cause_in, counters_of}
use Rattle.mm_record.proofs.Words.{StoreCounters, AreRows, came, store_at, told_of, IsRecorded, WasEnded, Supply}
use Rattle.mm_record.proofs.Words.{RecordingContext, recording_of, offers, given_in, Records, same_many, state_at}
use Rattle.mm_desk.specs.Laws.{OffersLeave}
use Rattle.mm_desk.proofs.PlaceLemmas.{AreHeld-same_ids, is_other}
use Rattle.mm_report.specs.declared.cause.Cause.{Cause}
use Rattle.mm_record.specs.declared.memory_step.Recorded.{Recorded}
use Rattle.mm_desk.specs.declared.fault.Fault.TheVariants as fault

-- stores with identifiers of their own are named
pub named_of : (stores : List Held) → AllPairs HaveOtherIds stores → AreNamed (map (λ h. h.id) stores)
named_of stores named = AllPairs-map (λ a b. bytes_eq a b ≡ false) (λ (h : Held). h.id) stores
    (λ i j d less within. is_other (get_or stores i d).id (get_or stores j d).id (named i j d less within))

-- stores under the labels of a memory's stores can be put into it
pub held_as : (a b : List Held) → labels_of a ≡ labels_of b → AreHeld b → AreHeld a
held_as a b labels held =
    AreHeld-same_ids b a (simp map-map at (ap (map (λ (label : List ℕ × ℕ). label.0)) (sym labels))) held

-- a step that is not ended: no recorder stopped early
pub not_caused : (step : ℕ) (why : Option Fault) → cause_in step why ≡ None → why ≡ None
not_caused step None is = refl
not_caused step (Some fault.NoMemory) is = cc
not_caused step (Some other) is = cc

-- what a step leaves in a memory
module _ (step now : ℕ) (old : Holdings) (stores : List Held) (sources left : List Supply) where
  abbrev e : RecordingContext
  e = recording_of step now old

  abbrev new : Holdings
  new = record old { stores = stores }

  -- a step that is ended
  pub ended_of : (why : Option Fault) (cause : Cause) → cause_in step why ≡ Some cause
      → Records e old.stores stores why sources left → WasEnded e old new cause sources left
  ended_of None cause is records = absurd (cc is)
  ended_of (Some fault) cause is records =
      record { routes = refl; fault = fault; records = records; cause_is = is }

  -- a step that is not ended was recorded
  pub recorded_of : (counters : List StoreCounters) (told : List Recorded) → OffersLeave
      → All (λ h. IsState h.state) old.stores → counters ≡ map (λ h. counters_of h.state) old.stores
      → AreRows counters stores (length stores) told → Records e old.stores stores None sources left
      → IsRecorded e old new told sources left
  recorded_of counters told law sound are rows records = record {
    routes = refl;
    records = records;
    leaves = leaves;
    told_are = record { many = rows.count; each = λ k d within. row k d within };
  }
    where
      gave : List (List SpacePacket)
      gave = given_in step sources

      nobody : Held
      nobody = record { id = []; channel = 0; state = blank }

      inside : (k : ℕ) → k < length stores → k < length old.stores
      inside k within = omega (arith, same_many stores old.stores records.labels)

      -- a store that has recorded offers leaves and loses as their number says
      leaves : (k : ℕ) → k < length stores → Leaves (store_at old k) (store_at new k) (came e gave k)
      leaves k within =
          let is = rw (state_at old.stores k nobody (inside k within)) at (sound k nobody (inside k within)) in
          let one = records.recorded k (omega (arith, length-map stores (λ (h : Held). h.state))) in
          let legal = one.legal in
          law _ _ (map (offers e k) gave) legal.log is.store.within is.store.has_room legal.run legal.shuffle one.taken

      -- what is told of a store, from its counters
      row : (k : ℕ) (d : Recorded) → k < length stores → get_or told k d ≡ told_of e gave old new k
      row k d within = rows.each k d (counters_of blank) nobody within
          ∙ (λ i. record { store = name i; came = came_is i; lost = lost_is i })
        where
          before : get_or counters k (counters_of blank) ≡ counters_of (store_at old k)
          before = rw are (get_or-map (λ (h : Held). counters_of h.state) old.stores k nobody (counters_of blank)
              (inside k within) ∙ ap counters_of (state_at old.stores k nobody (inside k within)))

          name : (get_or stores k nobody).id ≡ id_at e.ids k
          name = sym (get_or-map (λ (h : Held). h.id) stores k nobody [] within)
              ∙ ap (λ ids. id_at ids k) (simp map-map at (ap (map (λ (l : List ℕ × ℕ). l.0)) records.labels))

          came_is : (get_or stores k nobody).state.offered - (get_or counters k (counters_of blank)).offered ≡ came e
              gave k
          came_is = rw (before, state_at stores k nobody within) (omega (arith, (leaves k within).offered))

          lost_is : (get_or stores k nobody).state.lost - (get_or counters k (counters_of blank)).lost
              ≡ (store_at new k).lost - (store_at old k).lost
          lost_is = rw (before, state_at stores k nobody within) refl
