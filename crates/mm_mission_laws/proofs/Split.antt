-- Sums over steps in parts.
use Rattle.std.proofs.Common.{◌≡◌, ℕ, zero, suc, ◌+◌, ◌*◌, List, [], ◌∷◌, ap, refl, arith}
use Rattle.std.specs.List.{sum_by}
use Rattle.std.proofs.lemmas.List.Sums.{sum_by-cons}
use Rattle.mm_base.proofs.RangeSums.{sum_by_range_more}
use Rattle.mm_mission.specs.Laws.{over}

-- with one step more
over_more : (f : ℕ → ℕ) (i n k : ℕ) → i + suc n ≡ k → over f i (suc n) ≡ over f i n + f k
over_more f i n k is =
    let one : n + 1 ≡ suc n = omega arith in
    rw one at (sum_by_range_more f (i + 1) n k (omega arith))

-- what is summed up to a step, and in the steps after it
pub over_split : (f : ℕ → ℕ) (i n : ℕ) → over f 0 (i + n) ≡ over f 0 i + over f i n
over_split f i zero =
    let here : i + 0 ≡ i = omega arith in
    rw here (omega arith)
over_split f i (suc n) =
    let next : suc (i + n) ≡ i + suc n = omega arith in
    let all = over_more f 0 (i + n) (i + suc n) (omega arith) in
    omega (arith, ap (over f 0) next, all, over_more f i n (i + suc n) refl, over_split f i n)

pub over_next : (f : ℕ → ℕ) (n : ℕ) → over f 0 (suc n) ≡ over f 0 n + f (suc n)
over_next f n = over_more f 0 n (suc n) (omega arith)

-- a sum of numbers, each as often
pub sum_by_times : {X : Type 0} (k : ℕ) (f : X → ℕ) (xs : List X) → sum_by (λ x. k * f x) xs ≡ k * sum_by f xs
sum_by_times k f [] = omega arith
sum_by_times k f (x ∷ xs) =
    omega (
      arith,
      sum_by_times k f xs,
      sum_by-cons (λ y. k * f y) x xs,
      ap (λ n. k * n) (sum_by-cons f x xs),
    )
