-- The words of a line.
use Rattle.std.proofs.Common.{◌≡◌, ◌<◌, ◌==◌, ℕ, List, [], ◌∷◌, length, refl, arith}
use Rattle.std.specs.List.{slice_split}
use Rattle.mm_base.specs.Characters.{space}
use Rattle.mm_commands.specs.Doing.{words_in}

pub words_between : (line : List ℕ) → 0 < length line → words_in line ≡ slice_split (λ o. o == space) line
words_between [] some = absurd (omega (arith, some))
words_between (octet ∷ rest) some = refl
