-- After a halt the stores go on: they keep their sizes, stand where they stood, and pass the tests before the rest.
use Rattle.std.specs.List.{list_all}
use Rattle.std.specs.Prelude.{if◌then◌else◌, nat_le}
use Rattle.mm_carry.specs.Words.{Fits, HasShape}
use Rattle.mm_carry.proofs.Words
use Words.{BrokenOrdersChangeNothing, eqb-true, eq-eqb, find_at, get_or-map, get_or-map-range_with_len}
use Words.{length-map-range_with_len, fill_by_all, slice_get-get_or, position_or_len, slice_index, slice_index_or}
use Words.{slice_get, bytes_eq, Option, Some, None, IsTrue, is_some, not, ◌&&◌, ◌==◌, range_with_len, StoreRow, Dumping}
use Words.{row, no_row, place, stores, Table, amount, State, IsState, step, opening_at, blank, Event, Offer}
use Words.{Held, labels_of, states_of, has_id, store_of, is_clock_late, Sent, Supply, Reported, MayBegin}
use Words.{RunInput, place_in_memory, store_state, RunState, IsHaltedIn, Stop, AllMeet, NoneUnknown, meets}
use Words.{meets_at, run_start, run_start_of, ◌≡◌, ℕ, zero, suc, ◌+◌, ◌<◌, ◌≤◌, cond, Bool, true, false, List, []}
use Words.{◌∷◌, length}
use Words.{map, get_or, All, refl, sym, subst, ap, ◌∙◌, arith}
use Rattle.std.proofs.lemmas.Bool.{and_from, le-leb}
use Rattle.mm_problem.specs.Rest.{rest_of, rows_from, starting_with, starts_fit}
use Rattle.mm_problem.specs.Dumping.{lesser, limit}
use Rattle.mm_desk.specs.Fates.{after}
use Rattle.mm_desk.specs.declared.event.Event.TheVariants.{Delete}
use Rattle.mm_desk.specs.declared.state.Retrieval.{Retrieval}
use Rattle.mm_desk.proofs.Cases.{put_cases, delete_cases, quiet_leaves}
use Rattle.mm_carry.specs.declared.requirement.Requirement.{Requirement}
use Rattle.mm_carry.specs.declared.requirement.Requirement.TheVariants.{Ready, Size, Opening, Channel}
use Rattle.mm_carry.specs.Readiness.{AreCounts, HasLimit}
use Rattle.mm_carry.specs.GoingOn.{HaltedRunsGoOn, HaltedRunsHaveRests, IsRestOf, RunsFollow, held_by}
use Rattle.mm_carry.proofs.Placing.{no_held}
use Rattle.mm_carry.proofs.Parts.{as_many, same_ids}
use Rattle.mm_carry.proofs.StepMore.{all_same}
use Rattle.mm_carry.proofs.StoreRuns.{halted_is, stands_there}

-- an event leaves the size of a store
size_stays : (s : State) (e : Event) → (step s e).1.store.size ≡ s.store.size
size_stays s (Offer now packet) =
    put_cases s (λ r. r.1.store.size ≡ s.store.size) now packet (λ fault other. refl) (λ new is free. refl)
    (λ new is oldest later o. refl) (λ stuck. refl)
size_stays s (Delete limit) =
    delete_cases s (λ r. r.1.store.size ≡ s.store.size) limit (λ busy. refl) (λ idle. refl)
size_stays s e = quiet_leaves s e tt (λ t. t.store.size ≡ s.store.size) (λ storage retrieval. refl)

-- and so do events
sizes_stay : (s : State) (es : List Event) → (after s es).store.size ≡ s.store.size
sizes_stay s [] = refl
sizes_stay s (e ∷ es) = sizes_stay (step s e).1 es ∙ size_stays s e

-- a place in a list, by what its elements are made into
place_by : {X Y : Type 0} (p : Y → Bool) (f : X → Y) (xs : List X)
    → position_or_len (λ x. p (f x)) xs ≡ position_or_len p (map f xs)
place_by p f [] = refl
place_by p f (x ∷ xs) = ap (λ n. cond (not (p (f x))) (1 + n) 0) (place_by p f xs)

-- a store stands where it stood
pub same_place : (id : List ℕ) (left stores : List Held) → labels_of left ≡ labels_of stores
    → position_or_len (has_id id) left ≡ position_or_len (has_id id) stores
same_place id left stores labels =
    place_by (λ i. bytes_eq i id) (λ (h : Held). h.id) left
    ∙ ap (position_or_len (λ i. bytes_eq i id)) (same_ids left stores labels)
    ∙ sym (place_by (λ i. bytes_eq i id) (λ (h : Held). h.id) stores)

-- the law of runs that follow one another
pub follow : RunsFollow
follow m next left s r gave broke later labels over same is on =
    let state : store_state next next.memory.stores r ≡ store_state m left s =
    (λ i. opening_at (states_of (over i)) (position_or_len (has_id (same i)) (over i)))
    ∙ ap (opening_at (states_of left)) (same_place (row m.problem s).id left m.memory.stores labels) in
    ([], refl, is, rw (← state) on)

-- a list that is made into others twice
map_twice : {X Y Z : Type 0} (g : Y → Z) (f : X → Y) (xs : List X) → map g (map f xs) ≡ map (λ x. g (f x)) xs
map_twice g f [] = refl
map_twice g f (x ∷ xs) = ap (λ ys. g (f x) ∷ ys) (map_twice g f xs)

-- rows with other start volumes
module _ (rows : List StoreRow) (starts : List ℕ) where
  abbrev n : ℕ
  n = length rows

  abbrev at : ℕ → StoreRow
  at s = starting_with (slice_index_or rows s no_row) (slice_index starts s)

  row_at : (s : ℕ) → s < n → slice_index_or (rows_from rows starts) s no_row ≡ at s
  row_at s store = get_or-map-range_with_len at 0 n s s no_row store (omega arith)

  many : length (rows_from rows starts) ≡ n
  many = length-map-range_with_len at 0 n

  -- have the same identifiers
  ids : map (λ (r : StoreRow). r.id) (rows_from rows starts) ≡ map (λ (r : StoreRow). r.id) rows
  ids =
      let id : StoreRow → List ℕ = λ r. r.id in
      let own : ℕ → StoreRow = λ s. slice_index_or rows s no_row in
      let listed = fill_by_all own rows n no_row refl (λ k within. refl) in
      map_twice id at (range_with_len 0 n) ∙ sym (map_twice id own (range_with_len 0 n)) ∙ sym (ap (map id) listed)

  -- and so the same places
  places : (id : List ℕ) → position_or_len (λ (r : StoreRow). bytes_eq r.id id) (rows_from rows starts)
      ≡ position_or_len (λ (r : StoreRow). bytes_eq r.id id) rows
  places id =
      place_by (λ i. bytes_eq i id) (λ (r : StoreRow). r.id) (rows_from rows starts)
      ∙ ap (position_or_len (λ i. bytes_eq i id)) ids
      ∙ sym (place_by (λ i. bytes_eq i id) (λ (r : StoreRow). r.id) rows)

-- a limit of a channel is there whatever its number
limit_there : (b t : Bool) (a : Option ℕ) (x y : ℕ)
    → is_some (if b then lesser a (if t then Some x else None) else None)
    ≡ is_some (if b then lesser a (if t then Some y else None) else None)
limit_there false t a x y = refl
limit_there true true (Some a) x y = refl
limit_there true true None x y = refl
limit_there true false a x y = refl

-- the problem of later steps has a limit only where the problem had one
limits_stay : (q : Dumping) (t : ℕ) (starts : List ℕ) → HasLimit (rest_of q t starts) → HasLimit q
limits_stay q t starts has = (has.0, has.1, limit_there _ _ _ _ _ ∙ has.2)

-- what holds of each number of a range is a test that all pass
all_pass : (p : ℕ → Bool) (a count : ℕ) → ((s : ℕ) → a ≤ s → s < a + count → p s ≡ true)
    → list_all p (range_with_len a count) ≡ true
all_pass p a zero each = refl
all_pass p a (suc count) each =
    and_from (p a) (list_all p (range_with_len (a + 1) count)) (each a (omega arith) (omega arith))
    (all_pass p (a + 1) count (λ s low high. each s (omega arith) (omega arith)))

-- the identifier and the channel of a store
abbrev label : Held → List ℕ × ℕ
label h = (h.id, h.channel)

-- storage is on, and no retrieval
standing : (b : Bool) (r : Option Retrieval) → IsTrue b → r ≡ None → (b && not (is_some r)) ≡ true
standing b r on off = rw (on, off) refl

module _ {L : Type 0} (sent : L → List Sent) (failed : L → ℕ) (changes : BrokenOrdersChangeNothing) (m : RunInput)
    (plan : Table) (first : RunState Supply L) (step : ℕ) (left : RunState Supply L) (stop : Stop) (report : Reported)
    (halted : IsHaltedIn sent failed m plan first step left stop report)
    (sound : All (λ h. IsState h.state) m.memory.stores) where
  -- where a store of the problem stands
  abbrev k : ℕ → ℕ
  k s = place_in_memory m s

  abbrev began : MayBegin (run_start_of m plan first)
  began = halted.ran.began

  there : (s : ℕ) → s < length m.problem.rows → k s < length m.memory.stores
  there s store = stands_there m plan first began s store

  still_there : (s : ℕ) → s < length m.problem.rows → k s < length left.stores
  still_there s store = omega (arith, there s store, as_many left.stores m.memory.stores halted.labels)

  -- the store after the halt, and before the run
  abbrev now : ℕ → Held
  now s = get_or left.stores (k s) no_held

  abbrev was : ℕ → Held
  was s = get_or m.memory.stores (k s) no_held

  found : (s : ℕ) → s < length m.problem.rows → store_of (row m.problem s).id left.stores ≡ Some (now s)
  found s store =
      find_at (has_id (row m.problem s).id) left.stores
      ∙ ap (λ (j : ℕ). slice_get left.stores j)
      (same_place (row m.problem s).id left.stores m.memory.stores halted.labels)
      ∙ slice_get-get_or left.stores (k s) no_held (still_there s store)

  state_now : (s : ℕ) → s < length m.problem.rows → store_state m left.stores s ≡ (now s).state
  state_now s store = get_or-map (λ (h : Held). h.state) left.stores (k s) no_held blank (still_there s store)

  state_was : (s : ℕ) → s < length m.problem.rows → store_state m m.memory.stores s ≡ (was s).state
  state_was s store = get_or-map (λ (h : Held). h.state) m.memory.stores (k s) no_held blank (there s store)

  label_stays : (s : ℕ) → s < length m.problem.rows → label (now s) ≡ label (was s)
  label_stays s store =
      sym (get_or-map label left.stores (k s) no_held ([], 0) (still_there s store))
      ∙ ap (λ (ls : List (List ℕ × ℕ)). get_or ls (k s) ([], 0)) halted.labels
      ∙ get_or-map label m.memory.stores (k s) no_held ([], 0) (there s store)

  -- what a store met before the run
  met : (requirement : Requirement) (s : ℕ) → s < length m.problem.rows
      → meets_at requirement m.problem m.memory.stores s ≡ true
      → meets requirement (row m.problem s) (Some (was s)) ≡ true
  met requirement s store shown =
      subst (λ (o : Option Held). meets requirement (row m.problem s) o ≡ true)
      (find_at (has_id (row m.problem s).id) m.memory.stores
      ∙ slice_get-get_or m.memory.stores (k s) no_held (there s store)) shown

  sized : (s : ℕ) → s < length m.problem.rows → (now s).state.store.size ≡ (row m.problem s).size
  sized s store =
      let start = subst IsState (sym (state_was s store)) (sound (k s) no_held (there s store)) in
      let run = halted_is sent failed changes m plan first step left stop report halted s store start in
      ap (λ (u : State). u.store.size) (sym (state_now s store) ∙ run.leads)
      ∙ sizes_stay (store_state m m.memory.stores s) run.events
      ∙ ap (λ (u : State). u.store.size) (state_was s store)
      ∙ eqb-true _ _ (met Size s store (began.sizes (omega arith) s store))

  abbrev starts : List ℕ
  starts = held_by m left.stores

  start_is : (s : ℕ) → s < length m.problem.rows → slice_index starts s ≡ length (now s).state.store.content
  start_is s store =
      get_or-map-range_with_len (λ s. length (store_state m left.stores s).store.content) 0
      (length m.problem.rows) s s 0
      store (omega arith)
      ∙ ap (λ (u : State). length u.store.content) (state_now s store)

  -- the start volumes fit
  starts_are : starts_fit m.problem.rows starts ≡ true
  starts_are =
      all_pass (λ s. nat_le (slice_index starts s) (slice_index_or m.problem.rows s no_row).size) 0
      (length m.problem.rows)
      (λ s low high.
      let store : s < length m.problem.rows = omega (arith, high) in
      let here = halted.ready.sound (k s) no_held (still_there s store) in
      le-leb _ _ (omega (arith, start_is s store, sized s store, here.store.within)))

  -- a run of the rest
  module _ (q : Dumping) (rest : IsRestOf m left.stores q) where
    same_many : length q.rows ≡ length m.problem.rows
    same_many = ap length rest.rows ∙ many m.problem.rows starts

    row_is : (s : ℕ) → s < length m.problem.rows → row q s ≡ at m.problem.rows starts s
    row_is s store =
        ap (λ (rows : List StoreRow). slice_index_or rows s no_row) rest.rows ∙ row_at m.problem.rows starts s store

    place_is : (id : List ℕ) → place q id ≡ place m.problem id
    place_is id =
        ap (λ (rows : List StoreRow). position_or_len (λ r. bytes_eq r.id id) rows) rest.rows
        ∙ places m.problem.rows starts id

    all_meet : (requirement : Requirement)
        → ((s : ℕ) → s < length m.problem.rows
        → meets requirement (at m.problem.rows starts s) (Some (now s)) ≡ true)
        → AllMeet requirement q left.stores
    all_meet requirement each s inside =
        let store : s < length m.problem.rows = omega (arith, inside, same_many) in
        subst (λ (r : StoreRow). meets requirement r (store_of r.id left.stores) ≡ true) (sym (row_is s store))
        (subst (λ (o : Option Held). meets requirement (at m.problem.rows starts s) o ≡ true) (sym (found s store))
        (each s store))

    known : NoneUnknown q left.stores
    known =
        all_same (λ (l : List ℕ × ℕ). (place q l.0 == length q.rows) ≡ false) (λ (h : Held). (h.id, h.channel))
        m.memory.stores left.stores halted.labels
        (λ j d inside. let id = (get_or m.memory.stores j d).id in
        (λ i. place_is id i == same_many i) ∙ began.known (omega arith) j d inside)

    pub goes_on : (next : Table) (base sources links : ℕ) → HasShape q next → is_clock_late left.stores base ≡ false
        → Fits q (amount next) → AreCounts sources links → MayBegin (run_start q next left.stores base sources links)
    goes_on next base sources links shape in_time fits counts = record {
      shape = λ _. shape;
      flyable = λ _. rest.flyable (began.flyable (omega arith));
      ready = λ _. all_meet Ready (λ s store. standing (now s).state.storage (now s).state.retrieval
          (halted.ready.storage (k s) no_held (still_there s store))
          (halted.ready.idle (k s) no_held (still_there s store)));
      known = λ _. known;
      sizes = λ _. all_meet Size (λ s store. eq-eqb _ _ (sized s store));
      openings = λ _. all_meet Opening (λ s store. eq-eqb _ _ (sym (start_is s store)));
      channels = λ _ has. all_meet Channel (λ s store. eq-eqb _ _ (ap (λ (l : List ℕ × ℕ). l.1) (label_stays s store)
          ∙ eqb-true _ _ (met Channel s store (began.channels (omega arith) (rest.limits has) s store))));
      in_time = λ _. in_time;
      fits = λ _. fits;
      counts = λ _. counts;
    }

module _ {L : Type 0} (sent : L → List Sent) (failed : L → ℕ) (changes : BrokenOrdersChangeNothing) where
  -- the laws of a run that was halted
  pub halted_go_on : HaltedRunsGoOn sent failed
  halted_go_on m plan first step left stop report halted held sound q next base sources links rest =
      goes_on sent failed changes m plan first step left stop report halted sound q rest next base sources links

  pub halted_have_rests : HaltedRunsHaveRests sent failed
  halted_have_rests m plan first step left stop report halted held sound = (
    starts_are sent failed changes m plan first step left stop report halted sound,
    λ after. record {
      rows = refl;
      limits = limits_stay m.problem after (held_by m left.stores);
      flyable = λ is. record { before = is.before; one_size = is.one_size };
    },
  )
