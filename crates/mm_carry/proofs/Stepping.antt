-- What step runs do to the stores, step by step, and what the stores lose over all steps.
use Rattle.mm_carry.proofs.Words.{cases_lt, All-weaker, sum_by, range_with_len, All-back, sum_by_range_more}
use Rattle.mm_carry.proofs.Words.{sum_by_range_same, sum_by-add, Dumping, setup_size, stores, left_flown, lost_flown}
use Rattle.mm_carry.proofs.Words.{written_flown, left_start, Amounts}
use Rattle.mm_carry.proofs.Words.{left, written, lost, store_loss, loss, IsRising, Stored, count_of_shuffle, HasTimes}
use Rattle.mm_carry.proofs.Words.{ReplaysKeepStates, State, IsState, Leaves, offers_leave, order_dumps, count_of, IsRun}
use Rattle.mm_carry.proofs.Words.{replay, Entry, Event, AtEach, AsPlanned, IsRunOf, StepRunsKeepStores, IsDumpOf}
use Rattle.mm_carry.proofs.Words.{IsStepRun, AreTimed, IsBy, AreBy, ◌≡◌, inl, inr, ℕ, zero, suc, ◌+◌, ◌-◌, ◌<◌, ◌≤◌}
use Rattle.mm_carry.proofs.Words.{◌^◌, min, List, [], ◌∷◌, ◌++◌, length, All, refl, sym, ap, subst, ◌∙◌, arith}
use Rattle.mm_carry.proofs.Words.{length-append, add-one, shuffled}
use Rattle.mm_store.proofs.ContentLemmas.{IsRising-rest}
use Rattle.mm_desk.specs.Orders.{Dumps}
use Rattle.mm_carry.proofs.Replays.{IsRun-parts, by_offer, run_moves}

-- times rise in the back of a list in which they rise
rising_back : (gave rest : List Stored) → IsRising (gave ++ rest) → IsRising rest
rising_back [] rest all = all
rising_back (p ∷ gave) rest all = rising_back gave rest (IsRising-rest p (gave ++ rest) all)

-- a dump leaves a sound store sound
dumped_sound : (mid t : State) (wanted : ℕ) (gave : List Stored) → IsState mid → Dumps mid t wanted gave → IsState t
dumped_sound mid t wanted gave sound dumps =
    let parts : length mid.store.content ≡ length gave + length t.store.content = ap length dumps.oldest
    ∙ length-append gave t.store.content in
    let store = sound.store in
    subst IsState (sym dumps.others) (record {
      store = record {
        rising = rising_back gave t.store.content (subst IsRising dumps.oldest store.rising);
        from_one = All-back (λ (p : Stored). 1 ≤ p.time) gave t.store.content (subst (All (λ (p : Stored). 1 ≤ p.time))
            dumps.oldest store.from_one);
        up_to_last = All-back (λ (p : Stored). p.time ≤ mid.store.last) gave t.store.content
            (subst (All (λ (p : Stored). p.time ≤ mid.store.last)) dumps.oldest store.up_to_last);
        within = omega (arith, parts, store.within);
        has_room = store.has_room;
        in_limits = store.in_limits;
        last_fits = store.last_fits;
      };
      balance = omega (arith, parts, sound.balance);
      offered_fits = sound.offered_fits;
    })

-- offers by a moment that fits have moments that fit
pub timed_by : (now : ℕ) (offers : List (List Event)) → now < 2 ^ 64 → AreBy now offers → AreTimed offers
timed_by now offers fits by =
    All-weaker (λ (list : List Event). All (IsBy now) list) (λ (list : List Event). All HasTimes list)
    (λ list all. All-weaker (IsBy now) HasTimes (by_offer HasTimes now (λ at packet early. omega (arith, fits, early)))
    list all) offers by

-- where no packet is wanted, none is dumped
none_dumped : (mid t : State) (wanted : ℕ) (gave : List Stored) → wanted ≡ 0 → gave ≡ [] → t ≡ mid
    → Dumps mid t wanted gave
none_dumped mid t wanted gave none nothing same =
    let many : mid.deleted ≡ mid.deleted + 0 = omega arith in
    rw (same, nothing, none)
    (record { many = omega arith; oldest = refl; others = λ i. record mid { deleted = many i } })

-- what stands in a store once this many packets have come
abbrev filled : State → ℕ → ℕ
filled s n = min (length s.store.content + n) s.store.size

-- what a step run leaves, of this many offers and an order of at most this many packets
record StepLeaves (s t : State) (n wanted : ℕ) : Type 0 where
  sound : IsState t
  sized : t.store.size ≡ s.store.size
  takes : t.offered ≡ s.offered + n
  holds : length t.store.content ≡ filled s n - min wanted (filled s n)
  loses : t.lost ≡ s.lost + (length s.store.content + n - filled s n)
  dumps : t.deleted ≡ s.deleted + min wanted (filled s n)
  retrieval : t.retrieval ≡ s.retrieval
  storage : t.storage ≡ s.storage

-- what a dump does
dumped : (mid t : State) (wanted : ℕ) (gave : List Stored) (calls : List Entry) → IsState mid
    → IsDumpOf wanted gave calls → IsRun mid calls t → Dumps mid t wanted gave
dumped mid t wanted gave calls sound is run = elim (cases_lt 0 wanted) [
  | inl some ↦ let order = is.whole (omega arith) in order_dumps mid t order.0 wanted gave calls sound order.1 run
  | inr none ↦
      let nothing = is.none (omega arith) in
      none_dumped mid t wanted gave (omega arith) nothing.0 (run.leaves ∙ ap (replay mid) nothing.1)
]

-- where a log of events whose times fit leaves a state
module _ (keep : ReplaysKeepStates) where
  -- the two halves of a step run: what its offers leave, and what its dump does
  pub record Halves (offers : List (List Event)) (wanted : ℕ) (gave : List Stored) (s t : State)
      (is : IsStepRun offers wanted gave s t) : Type 0 where
    pub recording : IsRun s is.recorded (replay s is.recorded)
    pub stood : IsState (replay s is.recorded)
    pub came : Leaves s (replay s is.recorded) (count_of offers)
    pub dumping : IsRun (replay s is.recorded) is.dumped t
    pub dumps : Dumps (replay s is.recorded) t wanted gave

  pub halves : (s t : State) (offers : List (List Event)) (wanted : ℕ) (gave : List Stored) → IsState s
      → AreTimed offers → (is : IsStepRun offers wanted gave s t) → Halves offers wanted gave s t is
  halves s t offers wanted gave sound timed is =
      let mid = replay s is.recorded in
      let parts = IsRun-parts s t is.recorded is.dumped is.run in
      let stood : IsState mid = keep s is.recorded sound (shuffled HasTimes offers is.recorded is.shuffle timed) in
      record {
        recording = parts.0;
        stood = stood;
        came = offers_leave s mid offers is.recorded sound.store.within sound.store.has_room parts.0 is.shuffle
            is.taken;
        dumping = parts.1;
        dumps = dumped mid t wanted gave is.dumped stood is.dump parts.1;
      }

  -- a step run
  run_leaves : (s t : State) (offers : List (List Event)) (wanted : ℕ) (gave : List Stored) → IsState s
      → AreTimed offers → IsStepRun offers wanted gave s t → StepLeaves s t (count_of offers) wanted
  run_leaves s t offers wanted gave sound timed is =
      let parts = halves s t offers wanted gave sound timed is in
      let came = parts.came in
      let dumps = parts.dumps in
      let split = ap length dumps.oldest ∙ length-append gave t.store.content in
      record {
        sound = dumped_sound (replay s is.recorded) t wanted gave parts.stood dumps;
        sized = ap (λ (u : State). u.store.size) dumps.others ∙ came.size;
        takes = ap (λ (u : State). u.offered) dumps.others ∙ came.offered;
        holds = omega (arith, split, dumps.many, came.volume);
        loses = ap (λ (u : State). u.lost) dumps.others ∙ came.lost;
        dumps = ap (λ (u : State). u.deleted) dumps.others ∙ omega (arith, dumps.many, came.volume, came.deleted);
        retrieval = ap (λ (u : State). u.retrieval) dumps.others ∙ came.retrieval;
        storage = ap (λ (u : State). u.storage) dumps.others ∙ came.storage;
      }

  -- a step run keeps a store sound and ready
  pub keeps_store : StepRunsKeepStores
  keeps_store now s t offers wanted gave fits sound by is =
      let timed = timed_by now offers fits by in
      let leaves = run_leaves s t offers wanted gave sound timed is in
      let parts = halves s t offers wanted gave sound timed is in
      let same = ap (λ (u : State). u.store.last) parts.dumps.others in
      let moved = (run_moves now offers is.recorded s (replay s is.recorded) parts.recording is.shuffle by).last in
      let many = count_of_shuffle offers is.recorded is.shuffle in
      record {
        sound = leaves.sound;
        storage = leaves.storage;
        retrieval = leaves.retrieval;
        offered = leaves.takes;
        last = omega (arith, same, moved, many);
      }

  -- a store after some steps
  pub record Stands (q : Dumping) (x : Amounts) (s t : ℕ) (state : State) : Type 0 where
    pub sound : IsState state
    pub sized : state.store.size ≡ setup_size q s
    pub holds : length state.store.content ≡ left q x s t

  module _ (q : Dumping) (x : Amounts) (steps : ℕ) (offers : ℕ → ℕ → List (List Event)) (gave : ℕ → ℕ → List Stored)
      (states : ℕ → ℕ → State) (is : IsRunOf q x steps offers gave states) where
    -- one step of a run
    step_of : (s t : ℕ) → s < length q.rows → 1 ≤ t → t ≤ steps → Stands q x s (t - 1) (states s (t - 1))
        → Stands q x s t (states s t) × AsPlanned q x s t (states s (t - 1)) (states s t)
    step_of s t store first last stood =
        let leaves = run_leaves _ _ (offers s t) (x s t) (gave s t) stood.sound (is.timed s t store first last)
        (is.runs s t store first last) in
        let came = is.came s t store first last in
        let next = left_flown q is.flyable x s t (t - 1) (omega arith) in
        let is_written = written_flown q is.flyable x s t in
        let is_lost = lost_flown q is.flyable x s t in
        let holds : length (states s t).store.content ≡ left q x s t =
        omega (arith, next, is_written, stood.holds, stood.sized, came, leaves.holds) in (
          record { sound = leaves.sound; sized = leaves.sized ∙ stood.sized; holds = holds },
          record {
            takes = leaves.takes ∙ ap (λ (m : ℕ). (states s (t - 1)).offered + m) (sym came);
            holds = holds;
            loses = omega (arith, is_lost, is_written, stood.holds, stood.sized, came, leaves.loses);
            dumps = omega (arith, next, is_written, stood.holds, stood.sized, came, leaves.dumps);
          },
        )

    -- all steps
    pub stands : (s n : ℕ) → s < length q.rows → n ≤ steps → Stands q x s n (states s n)
    stands s zero store within =
        let ready = is.ready s store in
        record { sound = ready.sound; sized = ready.sized; holds = ready.holds ∙ sym (left_start q x s) }
    stands s (suc n) store within =
        let last : n ≡ suc n - 1 = omega arith in
        let stood = subst (λ (m : ℕ). Stands q x s m (states s m)) last (stands s n store (omega arith)) in
        (step_of s (suc n) store (omega arith) within stood).0

    -- in each store and step a run has the numbers of its plan
    pub as_planned : AtEach (length q.rows) steps (λ s t. AsPlanned q x s t (states s (t - 1)) (states s t))
    as_planned s t store first last = (step_of s t store first last (stands s (t - 1) store (omega arith))).1

-- what grows by these terms, step by step
pub grown : (f g : ℕ → ℕ) (n : ℕ) → ((t : ℕ) → 1 ≤ t → t ≤ n → f t ≡ f (t - 1) + g t) → f n
    ≡ f 0 + sum_by g (range_with_len 1 n)
grown f g zero each = omega arith
grown f g (suc n) each =
    let before = grown f g n (λ t first last. each t first (omega arith)) in
    let here = each (suc n) (omega arith) (omega arith) in
    let last : suc n - 1 ≡ n = omega arith in
    omega (arith, before, here, ap f last, rw add-one at (sum_by_range_more g 1 n (suc n) (omega arith)))

-- what all stores lose over all steps is the plan's loss
pub all_lost : (q : Dumping) (x : Amounts) (states : ℕ → ℕ → State) → AtEach (length q.rows) (length q.windows)
    (λ s t. AsPlanned q x s t (states s (t - 1)) (states s t))
    → sum_by (λ s. (states s (length q.windows)).lost) (stores q) ≡ sum_by (λ s. (states s 0).lost) (stores q) + loss q
    x
all_lost q x states each =
    sum_by_range_same (λ s. (states s (length q.windows)).lost) (λ s. (states s 0).lost + store_loss q x s) 0
    (length q.rows)
    (λ s from within. grown (λ t. (states s t).lost) (lost q x s) (length q.windows)
    (λ t first last. (each s t (omega arith) first last).loses))
    ∙ sum_by-add (λ (s : ℕ). (states s 0).lost) (store_loss q x) (stores q)
