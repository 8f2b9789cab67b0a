-- The rest of a problem after a step of a plan, step by step.
use Rattle.std.proofs.Common.{◌≡◌, ◌∙◌, ◌+◌, ◌-◌, ◌*◌, ◌<◌, ◌≤◌, ◌==◌, ℕ, zero, suc, nat_le, nat_lt, Bool, true}
use Rattle.std.proofs.Common.{false, cond, List, ◌∷◌, Some, None}
use Rattle.std.proofs.Common.{refl, sym, ap, ap₂, arith, drop, filter, get_or, length, length-drop, map, min}
use Rattle.std.specs.List.{position_or_len, sum_by, range_with_len}
use Rattle.std.proofs.lemmas.Bool.Decides.{nat_tests}
use Rattle.std.proofs.lemmas.List.{get_or-drop}
use Rattle.std.proofs.lemmas.List.FromFn.{get_or-map-range_with_len, length-map-range_with_len}
use Rattle.mm_base.specs.Grid.{cell}
use Rattle.mm_base.specs.declared.rows.StoreRow.{StoreRow}
use Rattle.mm_base.proofs.RangeSums.{sum_by_range_more, sum_by_range_same}
use Rattle.mm_base.proofs.Sums.{sum_by-add}
use Rattle.mm_problem.specs.Dumping.{Dumping, arrivals, is_of, lesser, limit, no_row}
use Rattle.mm_problem.specs.Dumping.{row, setup_limit, size, size_column, stores, stores_of, window}
use Rattle.mm_problem.specs.Rest.{rest_of, starting_with}
use Rattle.mm_plan.specs.Fit.{Fits, in_step}
use Rattle.mm_plan.specs.Least.{IsLeast}
use Rattle.mm_plan.specs.Volumes.{Amounts, left, left_by, loss, lost, lost_by, there}
use Rattle.mm_plan.proofs.Steps.{left_same, left_start, left_step}
use Rattle.mm_rest.specs.Laws.{SameUntil, joined, later, loss_until}
use Rattle.mm_rest.specs.Rests.{held_after, rest_after}

-- ---- tables

-- a cell of the steps after a step
later_cell : (L n s t : ℕ) (cells : List ℕ) → 1 ≤ t → cell L (drop (n * L) cells) s t ≡ cell L cells s (n + t)
later_cell L n s t cells first =
    let place : n * L + ((t - 1) * L + s) ≡ (n + t - 1) * L + s =
    let past : n + t - 1 ≡ n + (t - 1) = omega arith in rw past (omega arith) in
    get_or-drop (n * L) cells ((t - 1) * L + s) 0 ∙ ap (λ i. get_or cells i 0) place

-- ---- sums

-- what is summed up to a step, and after it
pub sums_add_up : (f : ℕ → ℕ) (n m : ℕ)
    → sum_by f (range_with_len 1 (n + m)) ≡ sum_by f (range_with_len 1 n) + sum_by (λ t. f (n + t)) (range_with_len 1 m)
sums_add_up f n zero = let same : n + 0 ≡ n = omega arith in rw same (omega arith)
sums_add_up f n (suc m) =
    let more : n + suc m ≡ n + m + 1 = omega arith in
    let one : suc m ≡ m + 1 = omega arith in
    let all : sum_by f (range_with_len 1 (n + suc m)) ≡ sum_by f (range_with_len 1 (n + m)) + f (n + (m + 1)) =
    ap (λ k. sum_by f (range_with_len 1 k)) more ∙ sum_by_range_more f 1 (n + m) (n + (m + 1)) (omega arith) in
    let after : sum_by (λ t. f (n + t)) (range_with_len 1 (suc m))
    ≡ sum_by (λ t. f (n + t)) (range_with_len 1 m) + f (n + (m + 1)) =
    ap (λ k. sum_by (λ t. f (n + t)) (range_with_len 1 k)) one
    ∙ sum_by_range_more (λ t. f (n + t)) 1 m (m + 1) (omega arith) in
    omega (arith, all, after, sums_add_up f n m)

-- ---- ranges

map_range_same : {A : Type 0} (f g : ℕ → A) (a m : ℕ) → ((s : ℕ) → a ≤ s → s < a + m → f s ≡ g s)
    → map f (range_with_len a m) ≡ map g (range_with_len a m)
map_range_same f g a zero same = refl
map_range_same f g a (suc m) same = ap₂ (λ x xs. x ∷ xs) (same a (omega arith) (omega arith))
    (map_range_same f g (a + 1) m (λ s low high. same s (omega arith) (omega arith)))

filter_range_same : (p r : ℕ → Bool) (a m : ℕ) → ((s : ℕ) → a ≤ s → s < a + m → p s ≡ r s)
    → filter p (range_with_len a m) ≡ filter r (range_with_len a m)
filter_range_same p r a zero same = refl
filter_range_same p r a (suc m) same = ap₂ (λ b xs. cond b (a ∷ xs) xs) (same a (omega arith) (omega arith))
    (filter_range_same p r (a + 1) m (λ s low high. same s (omega arith) (omega arith)))

-- ---- the problem of the steps after a step, from any volumes

module _ (q : Dumping) (n : ℕ) (held : List ℕ) where
  pub many_of : length (rest_of q n held).rows ≡ length q.rows
  many_of = length-map-range_with_len (λ s. starting_with (get_or q.rows s no_row) (get_or held s 0)) 0 (length q.rows)

  pub row_of : (s : ℕ) → s < length q.rows → row (rest_of q n held) s ≡ starting_with (row q s) (get_or held s 0)
  row_of s store = get_or-map-range_with_len (λ s. starting_with (get_or q.rows s no_row) (get_or held s 0)) 0
      (length q.rows) s s no_row store (omega arith)

  pub arrivals_of : (s t : ℕ) → 1 ≤ t → arrivals (rest_of q n held) s t ≡ arrivals q s (n + t)
  arrivals_of s t first = ap (λ L. cell L (drop (n * length q.rows) q.arrived) s t) many_of
      ∙ later_cell (length q.rows) n s t q.arrived first

  pub window_of : (t : ℕ) → 1 ≤ t → window (rest_of q n held) t ≡ window q (n + t)
  window_of t first =
      let place : n + (t - 1) ≡ n + t - 1 = omega arith in
      get_or-drop n q.windows (t - 1) 0 ∙ ap (λ i. get_or q.windows i 0) place

  pub limit_of : (c t : ℕ) → 1 ≤ t → limit (rest_of q n held) c t ≡ limit q c (n + t)
  limit_of c t first =
      let column = position_or_len (λ k. k == c) q.limited in
      ap (λ v. cond (nat_lt c (length q.limits)) (lesser (setup_limit q c)
      (cond (nat_lt column (length q.limited)) (Some v) None)) None)
      (later_cell (length q.limited) n column t q.step_limits first)

  pub stores_of_rest : (c : ℕ) → stores_of (rest_of q n held) c ≡ stores_of q c
  stores_of_rest c = ap (λ L. filter (is_of (rest_of q n held) c) (range_with_len 0 L)) many_of
      ∙ filter_range_same (is_of (rest_of q n held) c) (is_of q c) 0 (length q.rows) (λ s low high.
      let store : s < length q.rows = omega arith in
      ap (λ (r : StoreRow). r.channel == c) (row_of s store))

module _ (q : Dumping) (x : Amounts) (n : ℕ) where
  -- ---- the stores

  pub as_many : length (rest_after q x n).rows ≡ length q.rows
  as_many = many_of q n (held_after q x n)

  pub held_at : (s : ℕ) → s < length q.rows → get_or (held_after q x n) s 0 ≡ left q x s n
  held_at s store = get_or-map-range_with_len (λ s. left q x s n) 0 (length q.rows) s s 0 store (omega arith)

  pub row_at : (s : ℕ) → s < length q.rows → row (rest_after q x n) s ≡ starting_with (row q s) (left q x s n)
  row_at s store = row_of q n (held_after q x n) s store ∙ ap (starting_with (get_or q.rows s no_row)) (held_at s store)

  arrivals_at : (s t : ℕ) → 1 ≤ t → arrivals (rest_after q x n) s t ≡ arrivals q s (n + t)
  arrivals_at = arrivals_of q n (held_after q x n)

  -- ---- volumes

  module _ (s : ℕ) (store : s < length q.rows) where
    size_at : (t : ℕ) → 1 ≤ t → size (rest_after q x n) s t ≡ size q s (n + t)
    unfolding size
    size_at t first = ap₂ (λ a b. cond (nat_lt (size_column q s) (length q.sized)) (min a b) a)
        (ap (λ (r : StoreRow). r.size) (row_at s store))
        (later_cell (length q.sized) n (size_column q s) t q.step_sizes first)

    there_from : (k : ℕ) → left (rest_after q x n) (later n x) s k ≡ left q x s (n + k)
        → there (rest_after q x n) (later n x) s (suc k) ≡ there q x s (n + suc k)
    there_from k before =
        let here : suc k - 1 ≡ k = omega arith in
        let past : n + suc k - 1 ≡ n + k = omega arith in
        ap₂ (λ a b. a + b)
        (ap (left (rest_after q x n) (later n x) s) here ∙ before ∙ sym (ap (left q x s) past))
        (arrivals_at s (suc k) (omega arith))

    -- what is left is what is left in the rest
    left_at : (k : ℕ) → left (rest_after q x n) (later n x) s k ≡ left q x s (n + k)
    left_at zero =
        let same : n + 0 ≡ n = omega arith in
        left_start (rest_after q x n) (later n x) s ∙ ap (λ (r : StoreRow). r.start) (row_at s store)
        ∙ sym (ap (left q x s) same)
    left_at (suc k) =
        left_step (rest_after q x n) (later n x) s k (suc k) (omega arith)
        ∙ ap₂ (λ z w. left_by q.come z w (x s (n + suc k))) (size_at (suc k) (omega arith)) (there_from k (left_at k))
        ∙ sym (left_step q x s (n + k) (n + suc k) (omega arith))

    -- and so is what is lost
    lost_at : (t : ℕ) → 1 ≤ t → lost (rest_after q x n) (later n x) s t ≡ lost q x s (n + t)
    lost_at zero first = absurd (omega arith)
    lost_at (suc k) first =
        ap₂ (λ z w. lost_by q.come z w (x s (n + suc k))) (size_at (suc k) first) (there_from k (left_at k))

  -- ---- losses

  fewer_steps : n ≤ length q.windows → n + length (rest_after q x n).windows ≡ length q.windows
  fewer_steps before = omega (arith, length-drop n q.windows)

  -- what a plan loses up to a step, and in the rest
  pub losses : n ≤ length q.windows → loss q x ≡ loss_until n q x + loss (rest_after q x n) (later n x)
  losses before =
      let m = length (rest_after q x n).windows in
      let until = λ (s : ℕ). sum_by (lost q x s) (range_with_len 1 n) in
      let after = λ (s : ℕ). sum_by (lost (rest_after q x n) (later n x) s) (range_with_len 1 m) in
      let each : (s : ℕ) → 0 ≤ s → s < 0 + length q.rows → sum_by (lost q x s) (range_with_len 1 (length q.windows))
      ≡ until s + after s = λ s low high.
      let store : s < length q.rows = omega arith in
      ap (λ k. sum_by (lost q x s) (range_with_len 1 k)) (sym (fewer_steps before))
      ∙ sums_add_up (lost q x s) n m
      ∙ ap (λ k. until s + k) (sym (sum_by_range_same (lost (rest_after q x n) (later n x) s) (λ t. lost q x s (n + t))
      1 m
      (λ t first last. lost_at s store t first))) in
      sum_by_range_same _ (λ s. until s + after s) 0 (length q.rows) each
      ∙ sum_by-add until after (stores q)
      ∙ ap (λ k. loss_until n q x + sum_by after (range_with_len 0 k)) (sym as_many)

  -- ---- windows and limits

  pub window_at : (t : ℕ) → 1 ≤ t → window (rest_after q x n) t ≡ window q (n + t)
  window_at = window_of q n (held_after q x n)

  pub limit_at : (c t : ℕ) → 1 ≤ t → limit (rest_after q x n) c t ≡ limit q c (n + t)
  limit_at = limit_of q n (held_after q x n)

  pub stores_of_at : (c : ℕ) → stores_of (rest_after q x n) c ≡ stores_of q c
  stores_of_at = stores_of_rest q n (held_after q x n)

  -- the later amounts of a plan that fits do
  fits_rest : n ≤ length q.windows → (y : Amounts) → Fits q y → Fits (rest_after q x n) (later n y)
  fits_rest before y fits t first last =
      let whole = fits (n + t) (omega arith) (omega (arith, fewer_steps before)) in
      let sums = ap (λ L. sum_by (in_step y (n + t)) (range_with_len 0 L)) as_many in
      record {
        windowed = omega (arith, sums, window_at t first, whole.windowed);
        limited = λ c b is.
            let all = ap (sum_by (in_step y (n + t))) (stores_of_at c) in
            omega (arith, all, whole.limited c b (sym (limit_at c t first) ∙ is));
      }

-- ---- plans that are the same up to a step

left_alike : (q : Dumping) (x y : Amounts) (n : ℕ) → SameUntil q n x y → (s : ℕ) → s < length q.rows
    → (t : ℕ) → t ≤ n → left q y s t ≡ left q x s t
left_alike q x y n same s store t within =
    left_same q x y s t (λ u low high. same s u store low (omega arith))

lost_alike : (q : Dumping) (x y : Amounts) (n : ℕ) → SameUntil q n x y → (s : ℕ) → s < length q.rows
    → (t : ℕ) → 1 ≤ t → t ≤ n → lost q y s t ≡ lost q x s t
lost_alike q x y n same s store t first within =
    ap₂ (λ a b. lost_by q.come (size q s t) (a + arrivals q s t) b)
    (left_alike q x y n same s store (t - 1) (omega arith)) (same s t store first within)

-- they lose the same up to it
until_alike : (q : Dumping) (x y : Amounts) (n : ℕ) → SameUntil q n x y → loss_until n q y ≡ loss_until n q x
until_alike q x y n same = sum_by_range_same _ _ 0 (length q.rows) (λ s low high.
    let store : s < length q.rows = omega arith in
    sum_by_range_same (lost q y s) (lost q x s) 1 n (λ t first last. lost_alike q x y n same s store t first (omega arith)))

-- and leave the same
rest_alike : (q : Dumping) (x y : Amounts) (n : ℕ) → SameUntil q n x y → rest_after q y n ≡ rest_after q x n
rest_alike q x y n same = ap (rest_of q n) (map_range_same (λ s. left q y s n) (λ s. left q x s n) 0 (length q.rows)
    (λ s low high.
    let store : s < length q.rows = omega arith in
    let last : n ≤ n = omega arith in
    left_alike q x y n same s store n last))

-- all that they lose is the same where they are the same in all steps
pub loss_alike : (q : Dumping) (x y : Amounts) → SameUntil q (length q.windows) x y → loss q y ≡ loss q x
loss_alike q x y same = until_alike q x y (length q.windows) same

-- ---- a plan that is made anew

pub joined_until : (n : ℕ) (x z : Amounts) (s t : ℕ) → t ≤ n → joined n x z s t ≡ x s t
joined_until n x z s t within =
    let test : nat_le t n ≡ true = grind (arith, nat_tests) in
    ap (λ b. cond b (x s t) (z s (t - n))) test

pub joined_after : (n : ℕ) (x z : Amounts) (s t : ℕ) → 1 ≤ t → later n (joined n x z) s t ≡ z s t
joined_after n x z s t first =
    let test : nat_le (n + t) n ≡ false = grind (arith, nat_tests) in
    let place : n + t - n ≡ t = omega arith in
    ap (λ b. cond b (x s (n + t)) (z s (n + t - n))) test ∙ ap (z s) place

-- a least plan for the rest, after the first steps, loses no more than any plan with these
pub least_after : (q : Dumping) (x z : Amounts) (n : ℕ) → n ≤ length q.windows → IsLeast (rest_after q x n) z
    → (y : Amounts) → Fits q y → SameUntil q n (joined n x z) y → loss q (joined n x z) ≤ loss q y
least_after q x z n before least y fits same =
    let whole = joined n x z in
    let begun : rest_after q whole n ≡ rest_after q x n =
    rest_alike q x whole n (λ s t store first last. joined_until n x z s t last) in
    let own : loss (rest_after q whole n) (later n whole) ≡ loss (rest_after q x n) z =
    ap (λ r. loss r (later n whole)) begun
    ∙ loss_alike (rest_after q x n) z (later n whole) (λ s t store first last. joined_after n x z s t first) in
    let other : loss (rest_after q y n) (later n y) ≡ loss (rest_after q x n) (later n y) =
    ap (λ r. loss r (later n y)) (rest_alike q whole y n same ∙ begun) in
    let fewest = least.least (later n y) (fits_rest q x n before y fits) in
    omega (arith, losses q whole n before, losses q y n before, until_alike q whole y n same, own, other, fewest)
