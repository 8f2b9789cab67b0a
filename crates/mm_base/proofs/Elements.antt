-- Facts that hold of each element of a list.
use Rattle.std.proofs.Common.{List, [], ◌∷◌, All, map}
use Rattle.std.proofs.lemmas.List.Elements.{All-nil, All-cons, All-head, All-tail}

-- a fact of each element of map f xs is a fact of f x for each element x of xs
pub All-unmapped : {X Y : Type 0} (P : Y → Type 0) (f : X → Y) (xs : List X) → All P (map f xs) → All (λ x. P (f x)) xs
All-unmapped P f [] all = All-nil (λ x. P (f x))
All-unmapped P f (x ∷ xs) all =
    All-cons (λ x. P (f x)) x xs (All-head P (f x) (map f xs) all)
    (All-unmapped P f xs (All-tail P (f x) (map f xs) all))
