-- Sums over the steps of a stretch.
use Rattle.std.proofs.Common.{◌≡◌, ℕ, zero, suc, ◌+◌, ◌-◌, ◌<◌, ◌≤◌, Bool, true, false, refl, arith, add-zero, zero-add}
use Rattle.std.specs.Prelude.{filter}
use Rattle.std.specs.List.{range_with_len, sum_by}
use Rattle.std.proofs.lemmas.Bool.Decides.{nat_tests}
use Rattle.mm_base.proofs.RangeSums.{sum_by_filter_range_more, sum_by_filter_range_next}
use Rattle.mm_plan.specs.declared.stretch.Stretch.{Stretch}
use Rattle.mm_cut.specs.Stretches.{covers}

-- numbers of which none passes add nothing
sum_by_filter_none_more : (p : ℕ → Bool) (f : ℕ → ℕ) (n k : ℕ) → ((t : ℕ) → n < t → t ≤ n + k → p t ≡ false)
    → sum_by f (filter p (range_with_len 1 (n + k))) ≡ sum_by f (filter p (range_with_len 1 n))
sum_by_filter_none_more p f n zero none = rw add-zero refl
sum_by_filter_none_more p f n (suc k) none =
    let here : p (n + k + 1) ≡ false = none (n + k + 1) (omega arith) (omega arith) in
    let more = rw here at (sum_by_filter_range_more p f 1 (n + k) (n + k + 1) (omega arith)) in
    let before = sum_by_filter_none_more p f n k (λ t low high. none t low (omega arith)) in
    let same : n + suc k ≡ n + k + 1 = omega arith in
    rw same (omega (arith, more, before))

not_before : (d : Stretch) (t : ℕ) → t < d.first → covers d t ≡ false
not_before d t before = grind (arith, nat_tests)

not_after : (d : Stretch) (t : ℕ) → d.last < t → covers d t ≡ false
not_after d t after = grind (arith, nat_tests)

covers_within : (d : Stretch) (t : ℕ) → d.first ≤ t → t ≤ d.last → covers d t ≡ true
covers_within d t first last = grind (arith, nat_tests)

-- before its first step there is nothing to add
pub sum_before_first : (d : Stretch) (f : ℕ → ℕ) → sum_by f (filter (covers d) (range_with_len 1 (d.first - 1))) ≡ 0
sum_before_first d f =
    rw zero-add at (sum_by_filter_none_more (covers d) f 0 (d.first - 1) (λ t low high. not_before d t (omega arith)))

-- one of its steps
pub sum_within_next : (d : Stretch) (f : ℕ → ℕ) (t : ℕ) → 1 ≤ t → d.first ≤ t → t ≤ d.last
    → sum_by f (filter (covers d) (range_with_len 1 (t + 1 - 1))) ≡ sum_by f (filter (covers d) (range_with_len 1 (t - 1))) + f t
sum_within_next d f t one first last = rw (covers_within d t first last) at (sum_by_filter_range_next (covers d) f t one)

-- after its last step there is nothing more to add
pub sum_after_last : (d : Stretch) (f : ℕ → ℕ) (n : ℕ) → d.last ≤ n
    → sum_by f (filter (covers d) (range_with_len 1 n)) ≡ sum_by f (filter (covers d) (range_with_len 1 (d.last + 1 - 1)))
sum_after_last d f n within =
    let all = sum_by_filter_none_more (covers d) f d.last (n - d.last) (λ t low high. not_after d t low) in
    let whole : d.last + (n - d.last) ≡ n = omega arith in
    let last : d.last + 1 - 1 ≡ d.last = omega arith in
    rw (last, ← whole) all
