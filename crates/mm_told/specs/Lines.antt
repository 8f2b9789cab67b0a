-- The lines of a text by their numbers.
use Rattle.std.specs.Prelude.{ℕ, zero, suc, List, [], ◌∷◌, drop, Option, None, Some}

-- the first of some lines
abbrev pub first_of : List (List ℕ) → Option (List ℕ)
first_of [] = None
first_of (line ∷ lines) = Some line

-- the line of this number, from 1
abbrev pub numbered : ℕ → List (List ℕ) → Option (List ℕ)
numbered zero lines = None
numbered (suc k) lines = first_of (drop k lines)
