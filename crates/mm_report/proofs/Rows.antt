-- Counts that stand one after the other, as rows.
use Rattle.std.proofs.Common.{◌≡◌, ℕ, zero, suc, ◌+◌, ◌*◌, ◌<◌, ◌≤◌, List, [], ◌∷◌, ◌++◌, length, get_or, take, drop, refl, ap, ◌∙◌, arith, length-drop}
use Rattle.std.specs.Prelude.{sum_by}
use Rattle.std.proofs.lemmas.List.{take_all, take-append-le, drop-append-le, drop-drop, nil_from_length}
use Rattle.std.proofs.lemmas.List.Sums.{sum_by-cons, sum_by-take-drop}
use Rattle.mm_report.specs.declared.counts.StepCounts.{StepCounts}
use Rattle.mm_report.specs.Report.{in_rows}

-- what is left where a row is taken from several
rest_rows : (n k : ℕ) (xs : List StepCounts) → length xs ≡ suc k * n → (n ≤ length xs) × (length (drop n xs) ≡ k * n)
rest_rows n k xs whole = (omega (arith, whole), omega (arith, whole, length-drop n xs))

-- as many rows as are counted
pub length-in_rows : (n k : ℕ) (xs : List StepCounts) → length (in_rows n k xs) ≡ k
length-in_rows n zero xs = refl
length-in_rows n (suc k) xs = ap suc (length-in_rows n k (drop n xs))

-- a row more
pub in_rows-more : (n k : ℕ) (xs row : List StepCounts) → length xs ≡ k * n → length row ≡ n → in_rows n (k + 1) (xs ++ row) ≡ in_rows n k xs ++ row ∷ []
in_rows-more n zero xs row whole size =
    rw (nil_from_length xs (omega (arith, whole))) (ap (λ r. r ∷ []) (take_all n row (omega (arith, size))))
in_rows-more n (suc k) xs row whole size =
    let rest = rest_rows n k xs whole in
    let next : suc k + 1 ≡ suc (k + 1) = omega arith in
    rw (next, take-append-le n xs row rest.0, drop-append-le n xs row rest.0)
    (ap (λ rows. take n xs ∷ rows) (in_rows-more n k (drop n xs) row rest.1 size))

-- the row at a place
pub get_or-in_rows : (n k i : ℕ) (xs : List StepCounts) → i < k → get_or (in_rows n k xs) i [] ≡ take n (drop (i * n) xs)
get_or-in_rows n zero i xs within = absurd (omega (arith, within))
get_or-in_rows n (suc k) zero xs within =
    let none : 0 ≡ 0 * n = omega arith in
    ap (λ m. take n (drop m xs)) none
get_or-in_rows n (suc k) (suc i) xs within =
    let next : n + i * n ≡ suc i * n = omega arith in
    get_or-in_rows n k i (drop n xs) (omega (arith, within)) ∙ ap (take n) (drop-drop (i * n) n xs ∙ ap (λ m. drop m xs) next)

-- the sum over rows is that over their counts
pub sum_by-in_rows : (f : StepCounts → ℕ) (n k : ℕ) (xs : List StepCounts) → length xs ≡ k * n → sum_by (sum_by f) (in_rows n k xs) ≡ sum_by f xs
sum_by-in_rows f n zero xs whole = rw (nil_from_length xs (omega (arith, whole))) refl
sum_by-in_rows f n (suc k) xs whole =
    sum_by-cons (sum_by f) (take n xs) (in_rows n k (drop n xs))
    ∙ ap (λ m. sum_by f (take n xs) + m) (sum_by-in_rows f n k (drop n xs) (rest_rows n k xs whole).1)
    ∙ sum_by-take-drop f xs n

-- what is known of rows
pub ruleset row_facts = (length-in_rows, get_or-in_rows, in_rows-more, sum_by-in_rows)
