-- Sums over tables with a row for each step, counted from 1, and a column for each store, counted from 0.
use Rattle.std.proofs.Common.{◌≡◌, ◌≢◌, ℕ, ◌+◌, ◌<◌, ◌≤◌, get_or, ◌∙◌, arith}
use Rattle.std.specs.List.{sum_by, range_with_len}
use Rattle.mm_base.proofs.Sums.{sum_by-same, sum_by-add}
use Rattle.mm_base.proofs.RangeSums.{sum_by_range_same, sum_by_range_zeros, sum_by_range_one, term-le-sum_by_range}

-- the sum of a table over the steps from 1 to m and the columns below n
abbrev pub grid : (ℕ → ℕ → ℕ) → ℕ → ℕ → ℕ
grid h m n = sum_by (λ t. sum_by (h t) (range_with_len 0 n)) (range_with_len 1 m)

-- the sum of a table that is 0 outside one row is the sum of that row
pub grid-row : (h : ℕ → ℕ → ℕ) (m n t : ℕ) → 1 ≤ t → t ≤ m → ((u k : ℕ) → 1 ≤ u → u ≤ m → k < n → u ≢ t → h u k ≡ 0)
    → grid h m n ≡ sum_by (h t) (range_with_len 0 n)
grid-row h m n t first last none =
    sum_by_range_one (λ u. sum_by (h u) (range_with_len 0 n)) 1 m t first (omega arith)
    (λ u low high other. sum_by_range_zeros (h u) 0 n (λ k _ below. none u k low (omega arith) (omega arith) other))

-- the sum of a table of zeros is 0
pub grid_zeros : (h : ℕ → ℕ → ℕ) (m n : ℕ) → ((u k : ℕ) → 1 ≤ u → u ≤ m → k < n → h u k ≡ 0) → grid h m n ≡ 0
grid_zeros h m n none =
    sum_by_range_zeros (λ u. sum_by (h u) (range_with_len 0 n)) 1 m
    (λ u low high. sum_by_range_zeros (h u) 0 n (λ k _ below. none u k low (omega arith) (omega arith)))

-- the sum of a table that is 0 outside one place is the number at that place
pub grid-one : (h : ℕ → ℕ → ℕ) (m n t i : ℕ) → 1 ≤ t → t ≤ m → i < n
    → ((u k : ℕ) → 1 ≤ u → u ≤ m → k < n → (u ≡ t → k ≢ i) → h u k ≡ 0) → grid h m n ≡ h t i
grid-one h m n t i first last below none =
    grid-row h m n t first last (λ u k low high within other. none u k low high within (λ same _. other same))
    ∙ sum_by_range_one (h t) 0 n i (omega arith) (omega arith)
    (λ k _ within other. none t k first last (omega arith) (λ _. other))

-- each number of a table is at most the sum of the table
pub term-le-grid : (h : ℕ → ℕ → ℕ) (m n t i : ℕ) → 1 ≤ t → t ≤ m → i < n → h t i ≤ grid h m n
term-le-grid h m n t i first last below =
    omega (
      arith,
      term-le-sum_by_range (λ u. sum_by (h u) (range_with_len 0 n)) 1 m t first (omega arith),
      term-le-sum_by_range (h t) 0 n i (omega arith) (omega arith),
    )

-- equal tables have equal sums
pub grid-same : (h j : ℕ → ℕ → ℕ) (m n : ℕ) → ((u k : ℕ) → 1 ≤ u → u ≤ m → k < n → h u k ≡ j u k)
    → grid h m n ≡ grid j m n
grid-same h j m n same =
    sum_by_range_same (λ u. sum_by (h u) (range_with_len 0 n)) (λ u. sum_by (j u) (range_with_len 0 n)) 1 m
    (λ u low high. sum_by_range_same (h u) (j u) 0 n (λ k _ below. same u k low (omega arith) (omega arith)))

-- the sum of a table of sums is the sum of the two tables' sums
pub grid-add : (h j : ℕ → ℕ → ℕ) (m n : ℕ) → grid (λ t k. h t k + j t k) m n ≡ grid h m n + grid j m n
grid-add h j m n =
    sum_by-same (λ t. sum_by (λ k. h t k + j t k) (range_with_len 0 n))
    (λ t. sum_by (h t) (range_with_len 0 n) + sum_by (j t) (range_with_len 0 n)) (range_with_len 1 m)
    (λ k d _. sum_by-add (h (get_or (range_with_len 1 m) k d)) (j (get_or (range_with_len 1 m) k d))
    (range_with_len 0 n))
    ∙ sum_by-add (λ t. sum_by (h t) (range_with_len 0 n)) (λ t. sum_by (j t) (range_with_len 0 n)) (range_with_len 1 m)
