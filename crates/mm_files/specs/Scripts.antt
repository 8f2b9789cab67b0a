-- The files of a script: each is headed by a line `=== NAME`.
use Rattle.std.specs.Prelude.{◌≡◌, ℕ, Bool, false, if◌then◌else◌, List, [], ◌∷◌, ◌++◌, Option, Some, None, nat_eq}
use Rattle.std.specs.Prelude.{bytes_eq, codes, ◌⊎◌}
use Rattle.std.specs.List.{starts_with}
use Rattle.mm_base.specs.Characters.{line_feed}
use Rattle.mm_base.specs.Lines.{text_lines}
use Rattle.mm_files.specs.Contents.{Contents, FilesView, content_of, seen}

-- what each heading starts with
abbrev pub heading : List ℕ
heading = codes "=== "

-- whether a line is a heading
abbrev pub is_heading : List ℕ → Bool
is_heading line = starts_with nat_eq line heading

-- the heading of the file of a name
abbrev pub heading_of : List ℕ → List ℕ
heading_of name = heading ++ name

-- the text of these lines before the first heading, or of them all
abbrev pub before_heading : List (List ℕ) → List ℕ
before_heading [] = []
before_heading (line ∷ []) = if is_heading line then [] else line
before_heading (line ∷ next ∷ rest) = if is_heading line then [] else line ++ line_feed ∷ before_heading (next ∷ rest)

-- what follows the first line that is the heading of this name
abbrev pub file_in : List ℕ → List (List ℕ) → Option (List ℕ)
file_in name [] = None
file_in name (line ∷ rest) = if bytes_eq line (heading_of name) then Some (before_heading rest) else file_in name rest

-- the file of this name in the text of a script after its first line
unfoldable pub script_file : List ℕ → List ℕ → Option (List ℕ)
script_file text name = file_in name (text_lines text)

-- the files of that text: each is known, or there is none
abbrev pub script_contents : List ℕ → Contents
script_contents text = λ name. content_of (script_file text name)

-- what is seen of them: each name is a file's, `-` too
abbrev pub script_view : List ℕ → FilesView
script_view text = seen false (script_contents text) None

-- the line and the rest are what stands before and after the first line feed of a text, or the line is the whole text
abbrev pub IsFirstLine : List ℕ → List ℕ → List ℕ → Type 0
IsFirstLine text line rest = (text_lines text ≡ line ∷ text_lines rest) ⊎ ((text_lines text ≡ line ∷ []) × (rest ≡ []))
