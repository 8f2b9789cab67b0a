-- What follows some of the lines of a text.
use Rattle.std.proofs.Common.{◌≡◌, ℕ, ◌+◌, ◌-◌, ◌≤◌, List, [], ◌∷◌, drop, sym, ◌∙◌, ap, arith}
use Rattle.std.proofs.lemmas.List.{drop-drop}
use Rattle.std.proofs.Math.Seq.{drop-nil}

-- one line more
pub after_one : {X : Type 0} (i : ℕ) (xs rest others : List X) (x : X) → rest ≡ drop i xs → rest ≡ x ∷ others
    → others ≡ drop (i + 1) xs
after_one i xs rest others x at is = sym (ap (drop 1) (sym at ∙ is)) ∙ drop-drop 1 i xs

-- this many more
pub after_more : {X : Type 0} (i n : ℕ) (xs rest later : List X) → i ≤ n → rest ≡ drop i xs → later ≡ drop (n - i) rest
    → later ≡ drop n xs
after_more i n xs rest later most at is =
    let sum : i + (n - i) ≡ n = omega arith in
    is ∙ ap (drop (n - i)) at ∙ drop-drop (n - i) i xs ∙ ap (λ k. drop k xs) sum

-- no line is left
pub after_all : {X : Type 0} (i n : ℕ) (xs rest : List X) → i ≤ n → rest ≡ drop i xs → rest ≡ [] → rest ≡ drop n xs
after_all i n xs rest most at none =
    none ∙ after_more i n xs rest [] most at (sym (ap (drop (n - i)) none ∙ drop-nil (n - i)))
