-- How many stretches and counted steps a cut has at the most.
use Rattle.std.proofs.Common.{◌≡◌, ℕ, ◌+◌, ◌-◌, ◌*◌, ◌<◌, ◌≤◌, true, cond, leb, ◌&&◌, List, length, get_or, ap, ◌∙◌, subst, arith}
use Rattle.std.specs.List.{sum_by, range_with_len}
use Rattle.std.proofs.Math.Nat.{mul-le-mul}
use Rattle.std.proofs.lemmas.Bool.Decides.{nat_tests}
use Rattle.std.proofs.lemmas.List.Folds.{Any-from_list_any}
use Rattle.std.proofs.lemmas.List.FromFn.{length-range_with_len, get_or-range_with_len}
use Rattle.std.proofs.lemmas.List.Sums.{sum_by-le, get_or-le-sum_by}
use Rattle.mm_base.specs.declared.limits.TheConstants.{MAX_STORES, MAX_STEPS}
use Rattle.mm_base.proofs.Sums.{sum_by-le_each, sum_by-swap, sum_by_ones}
use Rattle.mm_base.proofs.Groups.{sum_by-le_places}
use Rattle.mm_problem.specs.Dumping.{Dumping, stores, steps, IsDumping}
use Rattle.mm_plan.specs.declared.stretch.Stretch.{Stretch}
use Rattle.mm_cut.specs.Stretches.{covers, goes_past, IsStretch, AreStretches}
use Rattle.mm_cut.specs.Counts.{IsCounted, AreCounted}
use Rattle.mm_cut.specs.Cuts.{CutsAreFew}
use Rattle.mm_cut.proofs.StretchLosses.{inner_end-le}
use Rattle.mm_cut.proofs.Exchange.{by_store}

-- how many steps a stretch has
step_count : Dumping → Stretch → ℕ
step_count q d = sum_by (λ t. cond (covers d t) 1 0) (steps q)

covered_first : (i j : ℕ) → i ≤ j → 1 ≤ cond (leb i i && leb i j) 1 0
covered_first i j order = grind (arith, nat_tests)

-- a stretch has at least its first step
has_step : (q : Dumping) (d : Stretch) → IsStretch q d → 1 ≤ step_count q d
unfolding step_count
has_step q d is =
    let within : d.first - 1 < length q.windows = omega (arith, is.first, is.order, is.last) in
    let at = get_or-le-sum_by (λ t. cond (covers d t) 1 0) (steps q) (d.first - 1) 0 (omega (arith, length-range_with_len 1 (length q.windows))) in
    let place = get_or-range_with_len 1 (length q.windows) (d.first - 1) 0 within in
    let first : 1 + (d.first - 1) ≡ d.first = omega (arith, is.first) in
    omega (arith, subst (λ t. cond (covers d t) 1 0 ≤ step_count q d) (place ∙ first) at, covered_first d.first d.last is.order)

-- no more stretches than places of a store and a step
pub length-stretches : (q : Dumping) (ds : List Stretch) → AreStretches q ds → length ds ≤ length q.windows * length q.rows
unfolding step_count
length-stretches q ds are =
    let in_step : ℕ → ℕ = λ t. sum_by (λ d. cond (covers d t) 1 0) ds in
    let each = sum_by-le_each (λ _. 1) (step_count q) ds (λ k d inside. has_step q (get_or ds k d) (are.each k d inside)) in
    let swapped = sum_by-swap (λ d t. cond (covers d t) 1 0) ds (steps q) in
    let all_stores : sum_by (λ _. 1) (stores q) ≡ length q.rows = sum_by_ones (stores q) ∙ length-range_with_len 0 (length q.rows) in
    let in_each_step : (t : ℕ) → in_step t ≤ length q.rows =
    λ t. omega (arith, by_store q ds t (λ _. 1) (λ d. covers d t) are (λ d at. at), all_stores) in
    let in_all_steps = sum_by-le in_step (length q.rows) (steps q) (λ k d inside. in_each_step (get_or (steps q) k d)) in
    let all_steps = ap (λ n. n * length q.rows) (length-range_with_len 1 (length q.windows)) in
    omega (arith, each, sum_by_ones ds, swapped, in_all_steps, all_steps)

-- the same in numbers
pub few_stretches : (q : Dumping) (ds : List Stretch) → IsDumping q → AreStretches q ds → length ds ≤ MAX_STEPS * MAX_STORES
few_stretches q ds is are =
    omega (arith, length-stretches q ds are, mul-le-mul is.steps.at_most is.stores.at_most)

-- an inner step is one of the steps
inner_within : (q : Dumping) (ds : List Stretch) (t : ℕ) → AreStretches q ds → IsCounted q ds t
    → (1 ≤ t) × (t ≤ length q.windows)
inner_within q ds t are is =
    let some = Any-from_list_any (goes_past q t) ds is.inner in
    let here = are.each some.0 some.1 some.2 in
    let first : 1 ≤ (get_or ds some.0 some.1).first = here.first in
    let last : (get_or ds some.0 some.1).last ≤ length q.windows = here.last in
    let begins : (get_or ds some.0 some.1).first ≡ some.1.first = ap (λ d. d.first) some.3 in
    let same : (get_or ds some.0 some.1).last ≡ some.1.last = ap (λ d. d.last) some.3 in
    let passed = some.4 in
    let end = inner_end-le q.come some.1 in
    (grind (arith, nat_tests), grind (arith, nat_tests))

-- no more counted steps than steps
pub length-counted : (q : Dumping) (ds : List Stretch) (ts : List ℕ) → AreStretches q ds → AreCounted q ds ts
    → length ts ≤ length q.windows
length-counted q ds ts are counted =
    let at = λ (k d : ℕ) (inside : k < length ts). inner_within q ds (get_or ts k d) are (counted.each k d inside) in
    let places =
    sum_by-le_places (λ _. 1) (λ _. true) (λ t. t - 1) (length q.windows) ts
    (λ k d inside _. let is = at k d inside in omega (arith, is.0, is.1))
    (λ i j d before inside _ _ same. counted.once i j d before inside
    (let first = at i d (omega arith) in let later = at j d inside in omega (arith, first.0, later.0, same))) in
    let all_steps = sum_by_ones (range_with_len 0 (length q.windows))
    ∙ length-range_with_len 0 (length q.windows) in
    omega (arith, places, sum_by_ones ts, all_steps)

pub cuts_are_few : CutsAreFew
cuts_are_few q ds ts is cut = (few_stretches q ds is cut.stretches, length-counted q ds ts cut.stretches cut.counted)
