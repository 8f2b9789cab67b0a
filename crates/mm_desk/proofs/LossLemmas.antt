-- What a store loses for room.
use Rattle.mm_desk.proofs.Words.{◌≡◌, ◌≢◌, ℕ, ◌<◌, ◌≤◌, ltb, leb, List, [], ◌∷◌, ◌++◌, length, filter, All, Contains}
use Rattle.mm_desk.proofs.Words.{refl, sym, ap, subst, ◌∙◌, arith, map-append, All-nil, All-cons, All-tail, All-append}
use Rattle.mm_desk.proofs.Words.{All-push, All-contains, All-filter, All-weaker, filter_passes, nat_tests}
use Rattle.mm_desk.proofs.Words.{AllPairs-append, IsRising, flat_map, Stored, Event, Offer, Delete, Bounded, Circular}
use Rattle.mm_desk.proofs.Words.{packets_of, left_out, given, given_up, after, over, State, IsState, step, oldest_over}
use Rattle.mm_desk.proofs.Words.{overwritten, AllPairs-head}
use Rattle.mm_desk.specs.Losses.{LosesNone, IsOlder, LosesNew, LosesOldest, taken_out, AreSettled}
use Rattle.mm_desk.proofs.Cases.{put_cases, delete_cases, quiet_leaves}
use Rattle.mm_desk.proofs.FateLemmas.{gives_held, over-append}
use Rattle.mm_store.proofs.PutLemmas.{IsOrdered}
use Rattle.mm_desk.proofs.RetrievalLemmas.{is_ordered, stays_ordered}

-- a store keeps its kind and its size
abbrev IsAlike : State → State → Type 0
IsAlike s t = (t.store.kind ≡ s.store.kind) × (t.store.size ≡ s.store.size)

stays_alike : (s : State) (e : Event) → IsAlike s (step s e).1
stays_alike s (Offer now packet) =
    put_cases s (λ r. IsAlike s r.1) now packet (λ fault other. (refl, refl)) (λ new is free. (refl, refl))
    (λ new is oldest later o. (refl, refl)) (λ stuck. (refl, refl))
stays_alike s (Delete limit) =
    delete_cases s (λ r. IsAlike s r.1) limit (λ busy. (refl, refl)) (λ idle. (refl, refl))
stays_alike s e = quiet_leaves s e tt (IsAlike s) (λ storage retrieval. (refl, refl))

-- a bounded store loses the packet that finds it full
loses_none : (s : State) (e : Event) → s.store.kind ≡ Bounded → LosesNone s e
loses_none s (Offer now packet) bounded =
    put_cases s (λ r. left_out r.0 ≢ [] → (s.store.size ≤ length s.store.content) × (r.1.store ≡ s.store)) now packet
    (λ fault other lost. absurd (lost refl)) (λ new is free lost. absurd (lost refl))
    (λ new is oldest later o lost. let circular = o.circular in absurd cc) (λ stuck lost. (stuck.full, refl))
loses_none s e bounded = λ lost. absurd (lost refl)

overwrites_none : (s : State) (e : Event) → s.store.kind ≡ Bounded → overwritten s e ≡ []
overwrites_none s (Offer now packet) bounded =
    put_cases s (λ r. oldest_over r.0 s.store.content ≡ []) now packet (λ fault other. refl) (λ new is free. refl)
    (λ new is oldest later o. let circular = o.circular in absurd cc) (λ stuck. refl)
overwrites_none s e bounded = refl

pub loses_new : (s : State) (es : List Event) → s.store.kind ≡ Bounded → LosesNew s es
loses_new s [] bounded = record { full = tt; none = refl }
loses_new s (e ∷ es) bounded =
    let rest = loses_new (step s e).1 es ((stays_alike s e).0 ∙ bounded) in
    record {
      full = (loses_none s e bounded, rest.full);
      none = ap (λ lost. lost ++ over overwritten (step s e).1 es) (overwrites_none s e bounded) ∙ rest.none;
    }

-- a circular store loses what it overwrites
loses_overwritten : (s : State) (e : Event) → 1 ≤ s.store.size → s.store.kind ≡ Circular
    → given_up s e ≡ packets_of (overwritten s e)
loses_overwritten s (Offer now packet) room circular =
    put_cases s (λ r. left_out r.0 ≡ packets_of (oldest_over r.0 s.store.content)) now packet (λ fault other. refl)
    (λ new is free. refl)
    (λ new is oldest later o. rw o.held refl)
    (λ stuck. let none = ap length (stuck.none circular) in absurd (omega (arith, none, stuck.full)))
loses_overwritten s e room circular = refl

all_overwritten : (s : State) (es : List Event) → 1 ≤ s.store.size → s.store.kind ≡ Circular
    → over given_up s es ≡ packets_of (over overwritten s es)
all_overwritten s [] room circular = refl
all_overwritten s (e ∷ es) room circular =
    let t = (step s e).1 in
    let alike = stays_alike s e in
    let rest = all_overwritten t es (omega (arith, alike.1)) (alike.0 ∙ circular) in
    rw (loses_overwritten s e room circular, rest, map-append) refl

-- a packet is older than all that a state holds and will hold
abbrev IsPast : State → Stored → Type 0
IsPast s lost = IsOlder s.store.content lost × (lost.time ≤ s.store.last)

module _ (lost : Stored) where
  -- what is kept is newer
  newer_kept : (held : List Stored) (new : Stored) (last : ℕ) → last < new.time → IsOlder held lost → lost.time ≤ last
      → IsOlder (held ++ new ∷ []) lost × (lost.time ≤ new.time)
  newer_kept held new last later older past = (
    All-push (λ p. lost.time < p.time) held new older (omega arith),
    omega arith,
  )

  stays_past : (s : State) (e : Event) → IsPast s lost → IsPast (step s e).1 lost
  stays_past s (Offer now packet) past =
      put_cases s (λ r. IsPast r.1 lost) now packet (λ fault other. past)
      (λ new is free. newer_kept s.store.content new s.store.last is.later past.0 past.1)
      (λ new is oldest later o.
      newer_kept later new s.store.last is.later (All-tail (λ p. lost.time < p.time) oldest later
      (rw o.held at past.0)) past.1)
      (λ stuck. past)
  stays_past s (Delete limit) past =
      delete_cases s (λ r. IsPast r.1 lost) limit (λ busy. past)
      (λ idle. (All-filter _ (λ p. lost.time < p.time) s.store.content past.0, past.1))
  stays_past s e past = quiet_leaves s e tt (λ t. IsPast t lost) (λ storage retrieval. past)

  always_past : (s : State) (es : List Event) → IsPast s lost → IsPast (after s es) lost
  always_past s [] past = past
  always_past s (e ∷ es) past = always_past (step s e).1 es (stays_past s e past)

-- what is overwritten is older than all that is held then
overwrites_past : (s : State) (e : Event) → IsOrdered s.store → All (IsPast (step s e).1) (overwritten s e)
overwrites_past s (Offer now packet) ordered =
    put_cases s (λ r. All (IsPast r.1) (oldest_over r.0 s.store.content)) now packet (λ fault other. All-nil _)
    (λ new is free. All-nil _)
    (λ new is oldest later o.
    let older = AllPairs-head (λ p q. p.time < q.time) oldest later (rw o.held at ordered.rising) in
    let early : oldest.time ≤ s.store.last = (rw o.held at ordered.up_to_last) 0 oldest (omega arith) in
    rw o.held (All-cons (λ q. IsOlder (later ++ new ∷ []) q × (q.time ≤ new.time)) oldest []
    (newer_kept oldest later new s.store.last is.later older early) (All-nil _)))
    (λ stuck. All-nil _)
overwrites_past s e ordered = All-nil _

-- and so is what is deleted
takes_past : (s : State) (e : Event) → IsOrdered s.store → All (IsPast (step s e).1) (taken_out s e)
takes_past s (Delete limit) ordered =
    let held = s.store.content in
    let gone = filter (λ p. leb p.time limit) held in
    let early = All-filter (λ p. leb p.time limit) (λ p. p.time ≤ s.store.last) held ordered.up_to_last in
    let up_to = filter_passes (λ (p : Stored). leb p.time limit) held in
    let later = filter_passes (λ (p : Stored). ltb limit p.time) held in
    delete_cases s (λ r. All (IsPast r.1) (taken_out s (Delete limit))) limit (λ busy. rw busy (All-nil _))
    (λ idle. rw idle (λ k d within. (
      λ j f inside. grind (arith, nat_tests, up_to k d within, later j f inside),
      early k d within,
    )))
takes_past s e ordered = overwrites_past s e ordered

-- what left a store over events is past
all_past : (each : State → Event → List Stored)
    → ((s : State) (e : Event) → IsOrdered s.store → All (IsPast (step s e).1) (each s e))
    → (s : State) (es : List Event) → IsOrdered s.store → All (IsPast (after s es)) (over each s es)
all_past each past s [] ordered = All-nil _
all_past each past s (e ∷ es) ordered =
    let t = (step s e).1 in
    All-append (IsPast (after t es)) (each s e) (over each t es)
    (All-weaker (IsPast t) (IsPast (after t es)) (λ lost gone. always_past lost t es gone) (each s e)
    (past s e ordered))
    (all_past each past t es (stays_ordered s e ordered))

pub loses_oldest : (s : State) (es : List Event) → IsState s → s.store.kind ≡ Circular → LosesOldest s es
loses_oldest s es sound circular =
    let t = after s es in
    record {
      lost = all_overwritten s es sound.store.has_room circular;
      older = All-weaker (IsPast t) (IsOlder t.store.content) (λ lost past. past.0) (over overwritten s es)
          (all_past overwritten overwrites_past s es (is_ordered s sound));
    }

-- what is given is later than what is past
gives_later : (lost : Stored) (s : State) (es : List Event) → IsPast s lost → IsOlder (over given s es) lost
gives_later lost s [] past = All-nil _
gives_later lost s (e ∷ es) past =
    let Later : Stored → Type 0 = λ p. lost.time < p.time in
    All-append Later (given s e) (over given (step s e).1 es)
    (All-weaker (Contains s.store.content) Later (λ p at. All-contains Later s.store.content p past.0 at) (given s e)
    (gives_held s e))
    (gives_later lost (step s e).1 es (stays_past lost s e past))

pub give_later : (s : State) (es more : List Event) → IsOrdered s.store
    → All (IsOlder (over given (after s es) more)) (over taken_out s es)
give_later s es more ordered =
    let t = after s es in
    All-weaker (IsPast t) (IsOlder (over given t more)) (λ lost past. gives_later lost t more past)
    (over taken_out s es) (all_past taken_out takes_past s es ordered)

-- over settled parts all that is given rises
all_ordered : (s : State) (es : List Event) → IsOrdered s.store → IsOrdered (after s es).store
all_ordered s [] ordered = ordered
all_ordered s (e ∷ es) ordered = all_ordered (step s e).1 es (stays_ordered s e ordered)

pub gives_rising : (s : State) (parts : List (List Event)) → IsOrdered s.store → AreSettled s parts
    → IsRising (over given s (flat_map (λ es. es) parts))
gives_rising s [] ordered settled = λ i j d before within. absurd (omega arith)
gives_rising s (es ∷ parts) ordered settled =
    let more = flat_map (λ (es : List Event). es) parts in
    let gave = over given s es in
    let later = give_later s es more ordered in
    let across = All-weaker (Contains (over taken_out s es)) (IsOlder (over given (after s es) more))
    (λ p at. All-contains (IsOlder (over given (after s es) more)) (over taken_out s es) p later at) gave settled.1 in
    subst IsRising (sym (over-append given s es more))
    (AllPairs-append (λ p q. p.time < q.time) gave (over given (after s es) more) settled.0
    (gives_rising (after s es) parts (all_ordered s es ordered) settled.2) across)
