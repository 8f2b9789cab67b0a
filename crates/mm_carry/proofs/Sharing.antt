-- What routes take of all that the sources give.
use Rattle.mm_carry.proofs.Words.{cond_both, get_or-map, get_or-range_with_len, length-range_with_len, filter-append}
use Rattle.mm_carry.proofs.Words.{list_any_at, filter, flat_map, not, is_routed, SpacePacket, Supply, Offer}
use Rattle.mm_carry.proofs.Words.{RecordingContext, offers, id_at, RunInput, step_of, stores, no_row, ◌≡◌, ℕ, zero, suc}
use Rattle.mm_carry.proofs.Words.{◌<◌, Bool, true, List, [], ◌∷◌, ◌++◌, length, map, get_or, refl, sym, ap, ◌∙◌, arith}
use Rattle.mm_carry.proofs.Words.{over_steps, packet_in, packets_offered, IsPermutation-filter_both, count_of, Event}
use Rattle.mm_carry.proofs.Words.{length-map, sum_by-cons, length-append, State, Stored, Held, IsAccounted, offered}
use Rattle.mm_carry.proofs.Words.{came, subst}
use Rattle.mm_carry.proofs.Words.{◌+◌, ◌-◌, ◌≤◌, place_in_memory, store_state, AtEach}
use Rattle.mm_desk.specs.Fates.{packets_of}
use Rattle.mm_carry.specs.Untaken.{given_at, is_for, is_taken, routed, AreShared, HasTaken}

-- the packets of offers of packets
offered_back : (now : ℕ) (ps : List SpacePacket) → flat_map packet_in (map (λ p. Offer now p) ps) ≡ ps
offered_back now [] = refl
offered_back now (p ∷ ps) = ap (λ qs. p ∷ qs) (offered_back now ps)

-- what is offered to a store, of what sources give in a step
offered_all : (e : RecordingContext) (k t : ℕ) (sources : List Supply)
    → packets_offered (map (offers e k) (map (λ gives. gives t) sources))
    ≡ filter (is_routed e.routes (id_at e.ids k)) (flat_map (λ gives. gives t) sources)
offered_all e k t [] = refl
offered_all e k t (s ∷ ss) =
    let test = is_routed e.routes (id_at e.ids k) in
    let here = offered_back e.now (filter test (s t)) in
    let rest = offered_all e k t ss in
    (λ i. here i ++ rest i) ∙ sym (filter-append test (s t) (flat_map (λ gives. gives t) ss))

-- a filter over all steps
filter_over : {X : Type 0} (test : X → Bool) (each : ℕ → List X) (n : ℕ)
    → over_steps (λ t. filter test (each t)) n ≡ filter test (over_steps each n)
filter_over test each zero = refl
filter_over test each (suc n) =
    ap (λ xs. xs ++ filter test (each (suc n))) (filter_over test each n)
    ∙ sym (filter-append test (over_steps each n) (each (suc n)))

-- what passes a test passes a wider one first
filter_twice : {X : Type 0} (test wider : X → Bool) (xs : List X) → ((x : X) → test x ≡ true → wider x ≡ true)
    → filter test xs ≡ filter test (filter wider xs)
filter_twice test wider [] passes = refl
filter_twice test wider (x ∷ xs) passes =
    let rest = filter_twice test wider xs passes in
    cond_both (test x) _ _ (λ ys. ys ≡ filter test (filter wider (x ∷ xs)))
    (λ yes. rw (passes x yes, yes) (ap (λ ys. x ∷ ys) rest))
    (λ no. cond_both (wider x) _ _ (λ ys. filter test xs ≡ filter test ys) (λ wide. rw no rest) (λ out. rest))

-- a packet for a store is taken by some route
taken_for : (m : RunInput) (s : ℕ) → s < length m.problem.rows → (packet : SpacePacket)
    → is_for m s packet ≡ true → is_taken m packet ≡ true
taken_for m s store packet is =
    let n = length m.problem.rows in
    let at : get_or (stores m.problem) s 0 ≡ s = get_or-range_with_len 0 n s 0 store ∙ omega arith in
    list_any_at (λ s. is_for m s packet) (stores m.problem) s 0 (omega (arith, store, length-range_with_len 0 n))
    (ap (λ (s : ℕ). is_for m s packet) at ∙ is)

-- as many packets are offered as there are offers
count_all : (e : RecordingContext) (k t : ℕ) (sources : List Supply)
    → count_of (map (offers e k) (map (λ gives. gives t) sources))
    ≡ length (packets_offered (map (offers e k) (map (λ gives. gives t) sources)))
count_all e k t [] = refl
count_all e k t (s ∷ ss) =
    let ps = filter (is_routed e.routes (id_at e.ids k)) (s t) in
    let os = map (offers e k) (map (λ gives. gives t) ss) in
    omega (
      arith,
      sum_by-cons (λ (events : List Event). length events) (offers e k (s t)) os,
      length-map ps (λ p. Offer e.now p),
      ap length (offered_back e.now ps),
      length-append (flat_map packet_in (offers e k (s t))) (packets_offered os),
      count_all e k t ss,
    )

-- what grows by the lengths of lists, step by step
grown_by : {X : Type 0} (f : ℕ → ℕ) (each : ℕ → List X) (n : ℕ)
    → ((t : ℕ) → 1 ≤ t → t ≤ n → f t ≡ f (t - 1) + length (each t)) → f n ≡ f 0 + length (over_steps each n)
grown_by f each zero grows = omega arith
grown_by f each (suc n) grows =
    let before = grown_by f each n (λ t first last. grows t first (omega arith)) in
    let here = grows (suc n) (omega arith) (omega arith) in
    let last : suc n - 1 ≡ n = omega arith in
    omega (arith, before, here, ap f last, length-append (over_steps each n) (each (suc n)))

-- what is offered to a store over all steps is what routes take to it
offered_over : (m : RunInput) (steps s : ℕ) → s < length m.problem.rows
    → over_steps (λ t. packets_offered (offered m s t)) steps ≡ filter (is_for m s) (routed m steps)
offered_over m steps s store =
    let id = get_or-map (λ r. r.id) m.problem.rows s no_row [] store in
    let at = λ (t : ℕ). offered_all (step_of m t) s t m.gives
    ∙ ap (λ id. filter (is_routed m.memory.routes id) (given_at m t)) id in
    (λ i. over_steps (λ t. at t i) steps) ∙ filter_over (is_for m s) (given_at m) steps
    ∙ filter_twice (is_for m s) (is_taken m) (over_steps (given_at m) steps) (taken_for m s store)

-- a store whose counter of offers rises by what comes, and whose packets are accounted for, takes what routes take to
-- it
taken : (m : RunInput) (steps : ℕ) (gave : ℕ → List Stored) (states : ℕ → State) (s : ℕ) → s < length m.problem.rows
    → IsAccounted steps (offered m s) gave states
    → ((t : ℕ) → 1 ≤ t → t ≤ steps → (states t).offered ≡ (states (t - 1)).offered + came m s t)
    → HasTaken (filter (is_for m s) (routed m steps)) (over_steps (λ t. packets_of (gave t)) steps) (states 0)
    (states steps)
taken m steps gave states s store account rises =
    let packets = offered_over m steps s store in
    let each = λ (t : ℕ). packets_offered (offered m s t) in
    let grown = grown_by (λ t. (states t).offered) each steps
    (λ t first last. omega (arith, rises t first last, count_all (step_of m t) s t m.gives)) in
    record {
      lost = account.lost;
      became = rw packets at account.packets;
      offered = rw packets at grown;
      counted = account.counted;
    }

-- the law, of a run whose stores stood so after each step
pub shared : (m : RunInput) (steps : ℕ) (stores : ℕ → List Held) (gave : ℕ → ℕ → List Stored)
    → stores 0 ≡ m.memory.stores
    → ((s : ℕ) → s < length m.problem.rows → IsAccounted steps (offered m s) (gave (place_in_memory m s))
    (λ t. store_state m (stores t) s))
    → AtEach (length m.problem.rows) steps (λ s t. (store_state m (stores t) s).offered
    ≡ (store_state m (stores (t - 1)) s).offered + came m s t)
    → AreShared m steps gave (stores steps)
shared m steps stores gave first accounted rises = record {
  all = IsPermutation-filter_both (is_taken m) (λ packet. not (is_taken m packet)) (λ packet. refl)
      (over_steps (given_at m) steps);
  each = λ s store.
      let is = taken m steps (gave (place_in_memory m s)) (λ t. store_state m (stores t) s) s store
      (accounted s store) (λ t. rises s t store) in
      subst (λ (held : List Held). HasTaken (filter (is_for m s) (routed m steps))
      (over_steps (λ t. packets_of (gave (place_in_memory m s) t)) steps) (store_state m held s)
      (store_state m (stores steps) s)) first is;
}
