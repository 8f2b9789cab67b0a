-- Reports for the instructions that are accepted.
use Rattle.mm_memory.proofs.Words.{◌≡◌, ℕ, suc, ◌+◌, ◌<◌, ◌≤◌, List, [], ◌∷◌, ◌++◌, length, get_or, take, refl, ap, ◌∙◌}
use Rattle.mm_memory.proofs.Words.{arith, filter_map, Option, Some, None, cons_option, take_more, append-nil}
use Rattle.mm_memory.proofs.Words.{filter_map-append}

-- one element more, which gives nothing
pub filter_map_none : {X Y : Type 0} (f : X → Option Y) (xs : List X) (i : ℕ) (d : X) → i < length xs
    → f (get_or xs i d) ≡ None → filter_map f (take (i + 1) xs) ≡ filter_map f (take i xs)
filter_map_none f xs i d inside none =
    ap (filter_map f) (take_more xs i d inside)
    ∙ filter_map-append f (take i xs) (get_or xs i d ∷ [])
    ∙ rw (none, append-nil) refl

-- one element more, which gives one
pub filter_map_some : {X Y : Type 0} (f : X → Option Y) (xs : List X) (i : ℕ) (d : X) (y : Y) → i < length xs
    → f (get_or xs i d) ≡ Some y → filter_map f (take (i + 1) xs) ≡ filter_map f (take i xs) ++ y ∷ []
filter_map_some f xs i d y inside some =
    ap (filter_map f) (take_more xs i d inside)
    ∙ filter_map-append f (take i xs) (get_or xs i d ∷ [])
    ∙ rw some refl

-- one element more at the most
length-cons_option : {Y : Type 0} (o : Option Y) (ys : List Y) (n : ℕ) → length ys ≤ n
    → length (cons_option o ys) ≤ suc n
length-cons_option None ys n few = omega arith
length-cons_option (Some y) ys n few = omega arith

-- no more elements than before
pub length-filter_map : {X Y : Type 0} (f : X → Option Y) (xs : List X) → length (filter_map f xs) ≤ length xs
length-filter_map f [] = omega arith
length-filter_map f (x ∷ xs) = length-cons_option (f x) (filter_map f xs) (length xs) (length-filter_map f xs)
