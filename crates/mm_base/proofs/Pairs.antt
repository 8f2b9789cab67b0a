-- Facts of each element, and of each two elements, of two lists joined.
use Rattle.std.proofs.Common.{suc, List, [], ◌∷◌, ◌++◌, All, arith}
use Rattle.std.specs.Prelude.{AllPairs, map}
use Rattle.std.proofs.lemmas.List.Elements.{All-nil, All-cons, All-head, All-tail, All-append, All-map}
use Rattle.std.proofs.lemmas.List.Kept.{AllPairs-cons}

-- a fact of each element of two lists joined is a fact of each element of the first list
pub All-front : {X : Type 0} (P : X → Type 0) (xs ys : List X) → All P (xs ++ ys) → All P xs
All-front P [] ys all = All-nil P
All-front P (x ∷ xs) ys all =
    All-cons P x xs (All-head P x (xs ++ ys) all) (All-front P xs ys (All-tail P x (xs ++ ys) all))

pub All-back : {X : Type 0} (P : X → Type 0) (xs ys : List X) → All P (xs ++ ys) → All P ys
All-back P [] ys all = all
All-back P (x ∷ xs) ys all = All-back P xs ys (All-tail P x (xs ++ ys) all)

-- a fact of each two elements holds of the first element and each later one
pub AllPairs-head : {X : Type 0} (R : X → X → Type 0) (x : X) (xs : List X) → AllPairs R (x ∷ xs) → All (R x) xs
AllPairs-head R x xs pairs = λ k d within. pairs 0 (suc k) d (omega arith) (omega arith)

-- a fact of each two elements holds of each two after the first
pub AllPairs-tail : {X : Type 0} (R : X → X → Type 0) (x : X) (xs : List X) → AllPairs R (x ∷ xs) → AllPairs R xs
AllPairs-tail R x xs pairs = λ i j d before within. pairs (suc i) (suc j) d (omega arith) (omega arith)

-- a fact of each two elements of two lists joined, from those of each list and those across
pub AllPairs-append : {X : Type 0} (R : X → X → Type 0) (xs ys : List X) → AllPairs R xs → AllPairs R ys
    → All (λ x. All (R x) ys) xs → AllPairs R (xs ++ ys)
AllPairs-append R [] ys front back across = back
AllPairs-append R (x ∷ xs) ys front back across =
    AllPairs-cons R x (xs ++ ys) (All-append (R x) xs ys (AllPairs-head R x xs front) (across 0 x (omega arith)))
    (AllPairs-append R xs ys (AllPairs-tail R x xs front) back (λ k d within. across (suc k) d (omega arith)))

-- a fact of each two values f x and f y is a fact of each two elements of map f
pub AllPairs-map : {X Y : Type 0} (R : X → X → Type 0) (make : Y → X) (ys : List Y)
    → AllPairs (λ t u. R (make t) (make u)) ys → AllPairs R (map make ys)
AllPairs-map R make [] each = λ i j d before within. absurd (omega arith)
AllPairs-map R make (t ∷ ts) each =
    AllPairs-cons R (make t) (map make ts) (All-map (R (make t)) make ts
    (AllPairs-head (λ u w. R (make u) (make w)) t ts each)) (AllPairs-map R make ts
    (AllPairs-tail (λ u w. R (make u) (make w)) t ts each))
