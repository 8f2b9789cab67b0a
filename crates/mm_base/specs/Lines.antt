-- The lines and words of a text.
use Rattle.std.specs.Prelude.{ℕ, ◌+◌, ◌==◌, List, [], ◌∷◌, take, drop, position, Option}
use Rattle.std.specs.List.{slice_split}
use Rattle.std.specs.Option.{option_map}
use Rattle.mm_base.specs.Characters.{line_feed, space}

-- the texts between the line feeds of a text; the last of them is empty if the text ends with a line feed
abbrev pub text_lines : List ℕ → List (List ℕ)
text_lines text = slice_split (λ c. c == line_feed) text

-- these lines, without the last one if it is empty
abbrev pub but_empty_last : List (List ℕ) → List (List ℕ)
but_empty_last [] = []
but_empty_last ([] ∷ []) = []
but_empty_last (line ∷ lines) = line ∷ but_empty_last lines

-- the lines of a file, the last of which may have no line feed
abbrev pub file_lines : List ℕ → List (List ℕ)
file_lines text = but_empty_last (text_lines text)

-- the text before place i, and the text after it
abbrev pub parts_at : List ℕ → ℕ → List ℕ × List ℕ
parts_at text i = (take i text, drop (i + 1) text)

-- the text before the first space and the text after it, or `None` if there is no space
abbrev pub cut_word : List ℕ → Option (List ℕ × List ℕ)
cut_word text = option_map (parts_at text) (position (λ c. c == space) text)
