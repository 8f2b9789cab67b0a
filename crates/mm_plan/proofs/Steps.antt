-- One step more of a plan's volumes, and what they depend on.
use Rattle.std.proofs.Common.{◌≡◌, ℕ, zero, suc, ◌+◌, ◌-◌, ◌<◌, ◌≤◌, min, length, refl, sym, ap, ◌∙◌, subst, arith, add-one}
use Rattle.mm_base.specs.declared.limits.TheConstants.{MAX_BLOCKS}
use Rattle.mm_problem.specs.Dumping.{Dumping, IsDumping, no_row, size, start, arrivals}
use Rattle.mm_problem.proofs.StepSizes.{size_most}
use Rattle.mm_plan.specs.Volumes.{Amounts, can_leave, left_by, left, there, written, stays, lost}
use Rattle.mm_plan.proofs.Turns.{left_by-le, left_by-less, lost_by-less, all_there}

-- what is left of what is there in the step
abbrev kept : Dumping → Amounts → ℕ → ℕ → ℕ
kept q x s t = left_by q.come (size q s t) (there q x s t) (x s t)

-- what stands in a store when a step has ended, by what stood in it before
pub left_next : (q : Dumping) (x : Amounts) (s n : ℕ)
    → left q x s (suc n) ≡ left_by q.come (size q s (suc n)) (left q x s n + arrivals q s (suc n)) (x s (suc n))
unfolding left
left_next q x s n = refl

left_suc : (q : Dumping) (x : Amounts) (s n : ℕ) → left q x s (suc n) ≡ kept q x s (suc n)
left_suc q x s n =
    let back : n ≡ suc n - 1 = omega arith in
    left_next q x s n
    ∙ ap (λ v. left_by q.come (size q s (suc n)) (left q x s v + arrivals q s (suc n)) (x s (suc n))) back

-- what stands in a store when a step has ended
pub left_step : (q : Dumping) (x : Amounts) (s n t : ℕ) → n + 1 ≡ t
    → left q x s t ≡ left_by q.come (size q s t) (there q x s t) (x s t)
left_step q x s n t e = subst (λ k. left q x s k ≡ kept q x s k) (sym (add-one n) ∙ e) (left_suc q x s n)

-- what stands in a store before the first step
pub left_start : (q : Dumping) (x : Amounts) (s : ℕ) → left q x s 0 ≡ start q s
unfolding left
left_start q x s = refl

-- a store holds no more than its size in the step
pub left_size : (q : Dumping) (x : Amounts) (s n t : ℕ) → n + 1 ≡ t → left q x s t ≤ size q s t
left_size q x s n t e =
    rw (left_step q x s n t e) (left_by-le q.come (size q s t) (there q x s t) (x s t))

-- a store holds no more than any store may
pub left_most : (q : Dumping) (x : Amounts) (s n : ℕ) → IsDumping q → s < length q.rows → left q x s n ≤ MAX_BLOCKS
left_most q x s zero is store = let row = is.stores.each s no_row store in omega (arith, left_start q x s)
left_most q x s (suc n) is store =
    let next : n + 1 ≡ suc n = omega arith in
    omega (arith, left_size q x s n (suc n) next, size_most q s (suc n) is store)

-- what is there in a step leaves, is left or is lost
pub step_balance : (q : Dumping) (x : Amounts) (s n t : ℕ) → n + 1 ≡ t
    → there q x s t ≡ min (x s t) (written q x s t) + left q x s t + lost q x s t
step_balance q x s n t e =
    rw (left_step q x s n t e) (all_there q.come (size q s t) (there q x s t) (x s t))

-- what is left depends on the amounts up to that step alone
pub left_same : (q : Dumping) (x y : Amounts) (s n : ℕ) → ((u : ℕ) → 1 ≤ u → u ≤ n → y s u ≡ x s u)
    → left q y s n ≡ left q x s n
left_same q x y s zero same = left_start q y s ∙ sym (left_start q x s)
left_same q x y s (suc n) same =
    let before = left_same q x y s n (λ u low high. same u low (omega arith)) in
    let here = same (suc n) (omega arith) (omega arith) in
    rw (left_next q y s n, before, here) (sym (left_next q x s n))

-- what is written depends on the amounts before that step alone
pub written_same : (q : Dumping) (x y : Amounts) (s t : ℕ) → ((u : ℕ) → 1 ≤ u → u < t → y s u ≡ x s u)
    → written q y s t ≡ written q x s t
written_same q x y s t same =
    let before = left_same q x y s (t - 1) (λ u low high. same u low (omega arith)) in
    rw before refl

-- where a plan lets as much leave as another, or all that can, no more is left
pub left_no_more : (q : Dumping) (x y : Amounts) (s n : ℕ)
    → ((u : ℕ) → 1 ≤ u → u ≤ n → min (x s u) (written q y s u) ≤ y s u) → left q y s n ≤ left q x s n
left_no_more q x y s zero each = omega (arith, left_start q y s, left_start q x s)
left_no_more q x y s (suc n) each =
    let before = left_no_more q x y s n (λ u low high. each u low (omega arith)) in
    let same : suc n - 1 ≡ n = omega arith in
    let here = subst (λ v. min (x s (suc n)) (can_leave q.come (size q s (suc n)) (left q y s v + arrivals q s (suc n)))
    ≤ y s (suc n)) same (each (suc n) (omega arith) (omega arith)) in
    let fewer : left q y s n + arrivals q s (suc n) ≤ left q x s n + arrivals q s (suc n) = omega (arith, before) in
    rw (left_next q y s n, left_next q x s n)
    (left_by-less q.come (size q s (suc n)) _ _ (y s (suc n)) (x s (suc n)) fewer here)

-- where no more was left before a step, and as much leaves or all that can, no more is lost in it
pub lost_no_more : (q : Dumping) (x y : Amounts) (s t : ℕ) → left q y s (t - 1) ≤ left q x s (t - 1)
    → min (x s t) (written q y s t) ≤ y s t → lost q y s t ≤ lost q x s t
lost_no_more q x y s t before kept =
    lost_by-less q.come (size q s t) (there q y s t) (there q x s t) (y s t) (x s t) (omega (arith, before)) kept
