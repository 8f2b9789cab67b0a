-- Sums over more columns.
use Rattle.std.proofs.Common.{◌≡◌, ℕ, zero, suc, ◌+◌, ◌-◌, ◌<◌, ◌≤◌, ap, arith}
use Rattle.std.specs.List.{sum_by, range_with_len}
use Rattle.mm_base.proofs.Grids.{grid}
use Rattle.mm_base.proofs.RangeSums.{sum_by_range_more, sum_by_range-le, sum_by_range_same}

-- a sum over more numbers is no less
sum_more : (f : ℕ → ℕ) (n d : ℕ) → sum_by f (range_with_len 0 n) ≤ sum_by f (range_with_len 0 (n + d))
sum_more f n zero =
    let same : n + 0 ≡ n = omega arith in
    omega (arith, ap (λ k. sum_by f (range_with_len 0 k)) same)
sum_more f n (suc d) =
    let same : n + suc d ≡ n + d + 1 = omega arith in
    omega (
      arith,
      sum_more f n d,
      sum_by_range_more f 0 (n + d) (n + d) (omega arith),
      ap (λ k. sum_by f (range_with_len 0 k)) same,
    )

-- a sum over more numbers
sum-wider : (f : ℕ → ℕ) (n m : ℕ) → n ≤ m → sum_by f (range_with_len 0 n) ≤ sum_by f (range_with_len 0 m)
sum-wider f n m few =
    let same : n + (m - n) ≡ m = omega arith in
    omega (arith, sum_more f n (m - n), ap (λ k. sum_by f (range_with_len 0 k)) same)

-- nothing is added by numbers that count nothing
sum_nothing : (f : ℕ → ℕ) (n d : ℕ) → ((k : ℕ) → n ≤ k → k < n + d → f k ≡ 0)
    → sum_by f (range_with_len 0 (n + d)) ≡ sum_by f (range_with_len 0 n)
sum_nothing f n zero none =
    let same : n + 0 ≡ n = omega arith in
    ap (λ k. sum_by f (range_with_len 0 k)) same
sum_nothing f n (suc d) none =
    let same : n + suc d ≡ n + d + 1 = omega arith in
    omega (
      arith,
      sum_nothing f n d (λ k past below. none k past (omega arith)),
      sum_by_range_more f 0 (n + d) (n + d) (omega arith),
      none (n + d) (omega arith) (omega arith),
      ap (λ k. sum_by f (range_with_len 0 k)) same,
    )

-- a table of more columns
pub grid-wider : (h : ℕ → ℕ → ℕ) (m n r : ℕ) → n ≤ r → grid h m n ≤ grid h m r
grid-wider h m n r few = sum_by_range-le (λ t. sum_by (h t) (range_with_len 0 n))
    (λ t. sum_by (h t) (range_with_len 0 r)) 1 m (λ t _ _. sum-wider (h t) n r few)

-- columns that count nothing
pub grid-narrow : (h : ℕ → ℕ → ℕ) (m n r : ℕ) → n ≤ r → ((t s : ℕ) → 1 ≤ t → t ≤ m → s < r → n ≤ s → h t s ≡ 0)
    → grid h m r ≡ grid h m n
grid-narrow h m n r few none =
    sum_by_range_same (λ t. sum_by (h t) (range_with_len 0 r)) (λ t. sum_by (h t) (range_with_len 0 n)) 1 m
    (λ t low high.
    let same : n + (r - n) ≡ r = omega (arith, few) in
    omega (
      arith,
      sum_nothing (h t) n (r - n) (λ s past below. none t s low (omega arith) (omega (arith, few)) past),
      ap (λ k. sum_by (h t) (range_with_len 0 k)) same,
    ))

-- a table whose numbers are no greater
pub grid-le : (h j : ℕ → ℕ → ℕ) (m n : ℕ) → ((t s : ℕ) → 1 ≤ t → t ≤ m → s < n → h t s ≤ j t s)
    → grid h m n ≤ grid j m n
grid-le h j m n each =
    sum_by_range-le (λ t. sum_by (h t) (range_with_len 0 n)) (λ t. sum_by (j t) (range_with_len 0 n)) 1 m
    (λ t low high. sum_by_range-le (h t) (j t) 0 n (λ s _ below. each t s low (omega arith) (omega arith)))
