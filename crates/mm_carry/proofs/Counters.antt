-- What comes in a run in place of the forecast, and what the stores' counters rise by over a step and over a run,
-- beside the rows of the report.
use Rattle.std.specs.Prelude.{sum_by, flat_map}
use Rattle.mm_carry.proofs.Stepping.{grown, timed_by}
use Rattle.std.proofs.lemmas.List.Concat.{get_or-flat_map}
use Rattle.mm_carry.proofs.Words
use Words.{length-take-le, get_or-take, fill_by_all, get_or-map-range_with_len, length-map-range_with_len}
use Words.{get_or-range_with_len, length-range_with_len, range_with_len, sum_by_range_same, sum_by-add, sum_by-map}
use Words.{sum_by-swap, Dumping, arrivals, stores, steps, Amounts, left, written, lost, State, Held, counters_of}
use Words.{StepCounts, AtEach, AsPlanned, counts_from, planned_counts, row_from, state_by, rows_by_counters, counted}
use Words.{AreByCounters, AreCounters, AreStepCounts, RunInput, store_state, step_of, offered, came, as_came, AreTimed}
use Words.{◌≡◌, ℕ, ◌+◌, ◌-◌, ◌<◌, ◌≤◌, List, length, map, refl, sym, ap, ◌∙◌, arith, take, ◌*◌, ◌^◌, [], ◌∷◌, get_or}
use Words.{length-append, StoreCounters}
use Rattle.mm_carry.proofs.StoresReady.{all_by}

-- counters of nothing
abbrev no_counters : StoreCounters
no_counters = record { offered = 0; lost = 0; deleted = 0; held = 0 }

-- the first counts are the row
pub row_taken : (q : Dumping) (t : ℕ) (places : List ℕ) (before after : List Held) (old new : List StoreCounters)
    (counts : List StepCounts) → AreCounters before places (length q.rows) old
    → AreCounters after places (length q.rows) new → AreStepCounts q t old new (length q.rows) counts
    → length q.rows ≤ length counts
    → take (length q.rows) counts ≡ row_from q t (state_by places before) (state_by places after)
row_taken q t places before after old new counts was is told fits =
    let n = length q.rows in
    let one : ℕ → StepCounts = λ s. counts_from q s t (counters_of (state_by places before s))
    (counters_of (state_by places after s)) in
    fill_by_all one (take n counts) n (one 0) (length-take-le n counts fits)
    (λ k inside. get_or-take n counts k (one 0) inside ∙ told k (one 0) no_counters no_counters inside
    ∙ (λ i. counts_from q k t (was k no_counters inside i) (is k no_counters inside i)))

-- what a step brings to a store is what the plan says
pub counts_planned : (q came : Dumping) (x : Amounts) (s t : ℕ) (u v : State) → AsPlanned came x s t u v
    → counts_from q s t (counters_of u) (counters_of v) ≡ planned_counts q came x s t
counts_planned q came x s t u v planned =
    let arrived : v.offered - u.offered ≡ arrivals came s t = omega (arith, planned.takes) in
    let lost_is : v.lost - u.lost ≡ lost came x s t = omega (arith, planned.loses) in
    let dumped : v.deleted - u.deleted ≡ written came x s t - left came x s t = omega (arith, planned.dumps) in
    let held = planned.holds in
    λ i. record { forecast = arrivals q s t; arrived = arrived i; lost = lost_is i; dumped = dumped i; held = held i }

-- the totals of the first rows are what the stores' counters rose by
module _ (m : RunInput) (held : ℕ → List Held) (steps : ℕ) (first : held 0 ≡ m.memory.stores) where
  total_of : (counter : State → ℕ) (part : StepCounts → ℕ)
      → ((s t : ℕ) (u v : State) → part (counts_from m.problem s t (counters_of u) (counters_of v))
      ≡ counter v - counter u)
      → AtEach (length m.problem.rows) steps (λ s t. counter (store_state m (held (t - 1)) s)
      ≤ counter (store_state m (held t) s))
      → counted m counter (held steps) ≡ counted m counter m.memory.stores + sum_by (sum_by part)
      (rows_by_counters m held steps)
  total_of counter part parts rise =
      let n = length m.problem.rows in
      let at = λ (s t : ℕ). counter (store_state m (held t) s) in
      let rose = λ (s t : ℕ). at s t - at s (t - 1) in
      let here = λ (t s : ℕ). counts_from m.problem s t (counters_of (store_state m (held (t - 1)) s))
      (counters_of (store_state m (held t) s)) in
      let row = λ (t : ℕ). map (here t) (stores m.problem) in
      sum_by_range_same (λ s. at s steps) (λ s. at s 0 + sum_by (rose s) (range_with_len 1 steps)) 0 n
      (λ s from to. grown (at s) (rose s) steps (λ t low high. let up = rise s t (omega arith) low high in omega
      (arith, up)))
      ∙ sum_by-add (λ s. at s 0) (λ s. sum_by (rose s) (range_with_len 1 steps)) (stores m.problem)
      ∙ ap (λ (k : ℕ). counted m counter (held 0) + k)
      (sum_by-swap rose (stores m.problem) (range_with_len 1 steps)
      ∙ sum_by_range_same (λ t. sum_by (λ s. rose s t) (stores m.problem)) (λ t. sum_by part (row t)) 1 steps
      (λ t from to. sum_by_range_same (λ s. rose s t) (λ s. part (here t s)) 0 n (λ s low high. sym (parts s t _ _))
      ∙ sym (sum_by-map part (here t) (stores m.problem)))
      ∙ sym (sum_by-map (sum_by part) row (range_with_len 1 steps)))
      ∙ ap (λ (h : List Held). counted m counter h + sum_by (sum_by part) (map row (range_with_len 1 steps))) first

  pub by_counters : (came : Dumping) (x : Amounts) → AtEach (length m.problem.rows) steps
      (λ s t. AsPlanned came x s t (store_state m (held (t - 1)) s) (store_state m (held t) s))
      → AreByCounters m (held steps) (rows_by_counters m held steps)
  by_counters came x planned = record {
    arrived = total_of (λ u. u.offered) (λ y. y.arrived) (λ s t u v. refl)
        (λ s t store low high. let rose = (planned s t store low high).takes in omega (arith, rose));
    lost = total_of (λ u. u.lost) (λ y. y.lost) (λ s t u v. refl)
        (λ s t store low high. let rose = (planned s t store low high).loses in omega (arith, rose));
    dumped = total_of (λ u. u.deleted) (λ y. y.dumped) (λ s t u v. refl)
        (λ s t store low high. let rose = (planned s t store low high).dumps in omega (arith, rose));
  }

-- rows of one length, one after another
length-rows : {X : Type 0} (row : ℕ → List X) (n : ℕ) (xs : List ℕ) → ((t : ℕ) → length (row t) ≡ n)
    → length (flat_map row xs) ≡ length xs * n
length-rows row n [] same = omega arith
length-rows row n (x ∷ xs) same =
    let rest = length-rows row n xs same in
    let here = same x in
    let all = length-append (row x) (flat_map row xs) in
    grind (arith, rest, here, all)

-- what comes stands in place of the forecast
pub came_at : (m : RunInput) (s t : ℕ) → s < length m.problem.rows → 1 ≤ t → t ≤ length m.problem.windows
    → arrivals (as_came m) s t ≡ came m s t
came_at m s t store first last =
    let n = length m.problem.rows in
    let row : ℕ → List ℕ = λ u. map (λ r. came m r u) (stores m.problem) in
    let within : t - 1 < length (steps m.problem) = omega (arith, length-range_with_len 1 (length m.problem.windows)) in
    let before = take (t - 1) (steps m.problem) in
    let rows : length (flat_map row before) ≡ length before * n =
    length-rows row n before (λ u. length-map-range_with_len (λ r. came m r u) 0 n) in
    let few : length before ≡ t - 1 = length-take-le (t - 1) (steps m.problem) (omega arith) in
    let step : get_or (steps m.problem) (t - 1) 0 ≡ t = get_or-range_with_len 1 (length m.problem.windows) (t - 1) 0
    (omega arith) ∙ omega arith in
    let wide : s < length (row (get_or (steps m.problem) (t - 1) 0)) =
    omega (arith, length-map-range_with_len (λ r. came m r (get_or (steps m.problem) (t - 1) 0)) 0 n) in
    let found = get_or-flat_map row (steps m.problem) (t - 1) s 0 0 within wide in
    let place : length (flat_map row before) + s ≡ (t - 1) * n + s =
    ap (λ (k : ℕ). k + s) (rows ∙ ap (λ (k : ℕ). k * n) few) in
    sym (ap (λ (k : ℕ). get_or (flat_map row (steps m.problem)) k 0) place) ∙ found ∙ ap
    (λ (u : ℕ). get_or (row u) s 0) step ∙ get_or-map-range_with_len (λ r. came m r t) 0 n s s 0 store (omega arith)

-- what is offered in a run has moments that fit
pub timed_offers : (m : RunInput) (s t : ℕ) → m.base + t < 2 ^ 64 → AreTimed (offered m s t)
timed_offers m s t fits = timed_by (m.base + t) (offered m s t) fits
    (all_by (step_of m t) s (map (λ gives. gives t) m.gives))
