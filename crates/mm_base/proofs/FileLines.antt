-- The lines of a file.
use Rattle.std.proofs.Common.{◌≡◌, ℕ, ◌+◌, ◌==◌, List, [], ◌∷◌, length, refl, arith}
use Rattle.std.proofs.lemmas.List.Splits.{length-slice_split}
use Rattle.mm_base.specs.Lines.{text_lines, but_empty_last, file_lines}

-- a line before at least one more line is kept
but_empty_last-cons : (line : List ℕ) (lines : List (List ℕ)) (n : ℕ) → length lines ≡ n + 1
    → but_empty_last (line ∷ lines) ≡ line ∷ but_empty_last lines
but_empty_last-cons line [] n some = absurd (omega (arith, some))
but_empty_last-cons [] (l ∷ ls) n some = refl
but_empty_last-cons (c ∷ cs) (l ∷ ls) n some = refl

-- the first line of a text that has more lines is the first line of the file
pub line_before : (line text rest : List ℕ) → text_lines text ≡ line ∷ text_lines rest
    → file_lines text ≡ line ∷ file_lines rest
line_before line text rest lines =
    rw lines (but_empty_last-cons line (text_lines rest) _ (length-slice_split (λ c. c == 10) rest))
