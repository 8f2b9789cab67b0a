-- Sums over lists: equal and smaller terms, filters, maps, and sums of sums.
use Rattle.std.proofs.Common.{◌≡◌, ℕ, ◌+◌, ◌<◌, ◌≤◌, Bool, true, false, cond, not, ◌&&◌, List, [], ◌∷◌, length, get_or}
use Rattle.std.proofs.Common.{All, refl, sym, ◌∙◌, inl, inr, arith}
use Rattle.std.specs.Prelude.{AllPairs, filter, map}
use Rattle.std.specs.List.{sum_by, flat_map}
use Rattle.std.proofs.lemmas.Bool.{cases_lt, cases_Bool}
use Rattle.std.proofs.lemmas.List.Elements.{All-head, All-tail}
use Rattle.std.proofs.lemmas.List.Sums.{sum_by-cons, sum_by-append, sum_by-le}
use Rattle.mm_base.proofs.Pairs.{AllPairs-head, AllPairs-tail}

-- a sum of terms that are no larger is no larger
pub sum_by-le_each : {X : Type 0} (f g : X → ℕ) (xs : List X) → All (λ x. f x ≤ g x) xs → sum_by f xs ≤ sum_by g xs
sum_by-le_each f g [] each = omega arith
sum_by-le_each f g (x ∷ xs) each =
    omega (
      arith,
      sum_by-le_each f g xs (All-tail (λ y. f y ≤ g y) x xs each),
      All-head (λ y. f y ≤ g y) x xs each,
      sum_by-cons f x xs,
      sum_by-cons g x xs,
    )

-- sums of equal terms are equal
pub sum_by-same : {X : Type 0} (f g : X → ℕ) (xs : List X) → All (λ x. f x ≡ g x) xs → sum_by f xs ≡ sum_by g xs
sum_by-same f g xs same =
    omega (
      arith,
      sum_by-le_each f g xs (λ k d within. omega (arith, same k d within)),
      sum_by-le_each g f xs (λ k d within. omega (arith, same k d within)),
    )

-- a sum whose terms are all 0
pub sum_by_zeros : {X : Type 0} (f : X → ℕ) (xs : List X) → All (λ x. f x ≡ 0) xs → sum_by f xs ≡ 0
sum_by_zeros f xs zeros = omega (arith, sum_by-le f 0 xs (λ k d within. omega (arith, zeros k d within)))

-- a sum of ones is the length
pub sum_by_ones : {X : Type 0} (xs : List X) → sum_by (λ _. 1) xs ≡ length xs
sum_by_ones [] = refl
sum_by_ones (x ∷ xs) = omega (arith, sum_by_ones xs, sum_by-cons (λ _. 1) x xs)

-- a sum of sums of two terms is the sum of the two sums
pub sum_by-add : {X : Type 0} (f g : X → ℕ) (xs : List X) → sum_by (λ x. f x + g x) xs ≡ sum_by f xs + sum_by g xs
sum_by-add f g [] = refl
sum_by-add f g (x ∷ xs) =
    omega (arith, sum_by-add f g xs, sum_by-cons (λ y. f y + g y) x xs, sum_by-cons f x xs, sum_by-cons g x xs)

-- a sum over two lists does not depend on which list is summed over first
pub sum_by-swap : {X Y : Type 0} (f : X → Y → ℕ) (xs : List X) (ys : List Y)
    → sum_by (λ x. sum_by (f x) ys) xs ≡ sum_by (λ y. sum_by (λ x. f x y) xs) ys
sum_by-swap f [] ys = sym (sum_by_zeros (λ y. 0) ys (λ k d within. refl))
sum_by-swap f (x ∷ xs) ys =
    let first = sum_by-cons (λ z. sum_by (f z) ys) x xs in
    let split = sum_by-add (f x) (λ y. sum_by (λ z. f z y) xs) ys in
    let same = sum_by-same (λ y. f x y + sum_by (λ z. f z y) xs) (λ y. sum_by (λ z. f z y) (x ∷ xs)) ys
    (λ k d within. sym (sum_by-cons (λ z. f z (get_or ys k d)) x xs)) in
    omega (arith, first, split, same, sum_by-swap f xs ys)

-- a sum over the elements that pass is the sum over all, where the others count as 0
pub sum_by-filter : {X : Type 0} (f : X → ℕ) (p : X → Bool) (xs : List X)
    → sum_by f (filter p xs) ≡ sum_by (λ x. cond (p x) (f x) 0) xs
sum_by-filter f p [] = refl
sum_by-filter f p (x ∷ xs) =
    let so_far = sum_by-filter f p xs in
    let sum_more = sum_by-cons (λ y. cond (p y) (f y) 0) x xs in
    elim (cases_Bool (p x)) [
      | inl passes ↦ rw passes (sum_by-cons f x (filter p xs) ∙ omega (arith, so_far, rw passes at sum_more))
      | inr fails ↦ rw fails (omega (arith, so_far, rw fails at sum_more))
    ]

-- a sum over map make ys is a sum over ys
pub sum_by-map : {X Y : Type 0} (f : X → ℕ) (make : Y → X) (ys : List Y)
    → sum_by f (map make ys) ≡ sum_by (λ y. f (make y)) ys
sum_by-map f make [] = refl
sum_by-map f make (y ∷ ys) =
    omega (arith, sum_by-cons f (make y) (map make ys), sum_by-cons (λ z. f (make z)) y ys, sum_by-map f make ys)

-- a sum over map make of the elements that pass is a sum over all, where the others count as 0
pub sum_by-map-filter : {X Y : Type 0} (f : X → ℕ) (make : Y → X) (p : Y → Bool) (ys : List Y)
    → sum_by f (map make (filter p ys)) ≡ sum_by (λ y. cond (p y) (f (make y)) 0) ys
sum_by-map-filter f make p ys = sum_by-map f make (filter p ys) ∙ sum_by-filter (λ y. f (make y)) p ys

-- a sum over joined lists is the sum of the lists' sums
pub sum_by-flat_map : {X Y : Type 0} (f : X → ℕ) (make : Y → List X) (ys : List Y)
    → sum_by f (flat_map make ys) ≡ sum_by (λ y. sum_by f (make y)) ys
sum_by-flat_map f make [] = refl
sum_by-flat_map f make (y ∷ ys) =
    omega (
      arith,
      sum_by-append f (make y) (flat_map make ys),
      sum_by-cons (λ z. sum_by f (make z)) y ys,
      sum_by-flat_map f make ys,
    )

-- a sum with at most one term that is not 0, where each term is at most m, is at most m
pub sum_by-le_one : {X : Type 0} (f : X → ℕ) (m : ℕ) (xs : List X) → All (λ x. f x ≤ m) xs
    → AllPairs (λ x y. 0 < f x → f y ≡ 0) xs → sum_by f xs ≤ m
sum_by-le_one f m [] most one = omega arith
sum_by-le_one f m (x ∷ xs) most one =
    let others = sum_by-le_one f m xs (All-tail (λ y. f y ≤ m) x xs most)
    (AllPairs-tail (λ y z. 0 < f y → f z ≡ 0) x xs one) in
    let here = All-head (λ y. f y ≤ m) x xs most in
    let sum_more = sum_by-cons f x xs in
    elim (cases_lt 0 (f x)) [
      | inl some ↦
          let rest = sum_by_zeros f xs
          (λ k d within. AllPairs-head (λ y z. 0 < f y → f z ≡ 0) x xs one k d within some) in
          omega (arith, here, sum_more, rest)
      | inr none ↦ omega (arith, sum_more, others)
    ]

-- a choice between two terms as a sum of two terms, one of which is 0
one_of_two : (p q : Bool) (m n : ℕ) → cond p (cond q m n) 0 ≡ cond (p && not q) n 0 + cond (p && q) m 0
one_of_two true true m n = omega arith
one_of_two true false m n = omega arith
one_of_two false q m n = refl

-- a sum over the elements that pass p, whose terms are chosen by q, is the sum of two sums
pub sum_by-filter_parts : {X : Type 0} (p q : X → Bool) (f g : X → ℕ) (xs : List X)
    → sum_by (λ x. cond (q x) (f x) (g x)) (filter p xs)
    ≡ sum_by g (filter (λ x. p x && not (q x)) xs) + sum_by f (filter (λ x. p x && q x) xs)
sum_by-filter_parts {X} p q f g xs =
    let first : X → ℕ = λ x. cond (p x && not (q x)) (g x) 0 in
    let second : X → ℕ = λ x. cond (p x && q x) (f x) 0 in
    let each = sum_by-same (λ x. cond (p x) (cond (q x) (f x) (g x)) 0) (λ x. first x + second x) xs
    (λ k d inside. let x : X = get_or xs k d in one_of_two (p x) (q x) (f x) (g x)) in
    omega (
      arith,
      each,
      sum_by-add first second xs,
      sum_by-filter (λ x. cond (q x) (f x) (g x)) p xs,
      sum_by-filter g (λ x. p x && not (q x)) xs,
      sum_by-filter f (λ x. p x && q x) xs,
    )
