-- Ranges of numbers, as a loop goes through them.
use Rattle.std.proofs.Common.{◌≡◌, ℕ, ◌+◌, ◌-◌, ◌≤◌, Bool, ◌||◌, List, [], ◌∷◌, ◌++◌, ◌∙◌, ap, sym, max, arith}
use Rattle.std.proofs.Common.{add-one, append-nil, append_assoc}
use Rattle.std.specs.List.{flat_map, list_any, range_with_len, sum_by}
use Rattle.std.proofs.lemmas.Grind.{flat_map-append}
use Rattle.std.proofs.Math.Bool.{or-false}
use Rattle.std.proofs.lemmas.List.Folds.{list_any-append}
use Rattle.std.proofs.lemmas.List.{flat_map_more}
use Rattle.std.proofs.lemmas.List.Sums.{sum_by_push}
use Rattle.mm_base.proofs.Ranges.{range_with_len_more, range_with_len_next}
use Rattle.mm_chart.specs.Series.{largest}

-- the numbers below n + 1, as a loop over stores or channels adds the last of them
range_first : (n : ℕ) → range_with_len 0 (n + 1) ≡ range_with_len 0 n ++ n ∷ []
range_first n = ap (range_with_len 0) (add-one n) ∙ range_with_len_more 0 n n (omega arith)

-- the largest of a list with one number more
largest-push : (f : ℕ → ℕ) (ts : List ℕ) (j : ℕ) → largest f (ts ++ j ∷ []) ≡ max (largest f ts) (f j)
largest-push f [] j = omega arith
largest-push f (t ∷ ts) j = omega (arith, largest-push f ts j)

pub largest_first : (f : ℕ → ℕ) (n : ℕ)
    → largest f (range_with_len 0 (n + 1)) ≡ max (largest f (range_with_len 0 n)) (f n)
largest_first f n = ap (largest f) (range_first n) ∙ largest-push f (range_with_len 0 n) n

pub flat_map_first : {X : Type 0} (f : ℕ → List X) (n : ℕ)
    → flat_map f (range_with_len 0 (n + 1)) ≡ flat_map f (range_with_len 0 n) ++ f n
flat_map_first f n = ap (flat_map f) (range_first n) ∙ sym (flat_map_more f [] (range_with_len 0 n) n)

pub list_any_first : (f : ℕ → Bool) (n : ℕ)
    → list_any f (range_with_len 0 (n + 1)) ≡ (list_any f (range_with_len 0 n) || f n)
list_any_first f n =
    ap (list_any f) (range_first n) ∙ list_any-append f (range_with_len 0 n) (n ∷ [])
    ∙ ap (λ b. list_any f (range_with_len 0 n) || b) (or-false (f n))

-- the same for steps, which count from 1
pub sum_by_next : (f : ℕ → ℕ) (t : ℕ) → 1 ≤ t
    → sum_by f (range_with_len 1 (t + 1 - 1)) ≡ sum_by f (range_with_len 1 (t - 1)) + f t
sum_by_next f t first = ap (sum_by f) (range_with_len_next t first) ∙ sum_by_push f (range_with_len 1 (t - 1)) t

pub largest_next : (f : ℕ → ℕ) (t : ℕ) → 1 ≤ t
    → largest f (range_with_len 1 (t + 1 - 1)) ≡ max (largest f (range_with_len 1 (t - 1))) (f t)
largest_next f t first = ap (largest f) (range_with_len_next t first) ∙ largest-push f (range_with_len 1 (t - 1)) t

pub flat_map_next : {X : Type 0} (f : ℕ → List X) (t : ℕ) → 1 ≤ t
    → flat_map f (range_with_len 1 (t + 1 - 1)) ≡ flat_map f (range_with_len 1 (t - 1)) ++ f t
flat_map_next f t first = ap (flat_map f) (range_with_len_next t first)
    ∙ sym (flat_map_more f [] (range_with_len 1 (t - 1)) t)

-- one shape after another
pub ruleset placing = (append_assoc, append-nil)

-- the shapes of a row, of one number more, and one after another
pub ruleset drawing = (append_assoc, append-nil, flat_map-append, flat_map_next, flat_map_first)
