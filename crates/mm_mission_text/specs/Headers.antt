-- The header of a table, from left to right.
use Rattle.std.specs.Prelude.{ℕ, ◌+◌, Bool, not, List, [], ◌∷◌, ◌++◌, length, Option, Some, None, Result, Ok, Err}
use Rattle.std.specs.Prelude.{bytes_eq}
use Rattle.std.specs.List.{find, list_any}
use Rattle.std.specs.Option.{ok_or}
use Rattle.mm_base.specs.Reading.{◌>>=◌, test}
use Rattle.mm_problem.specs.Records.{Fields}
use Rattle.mm_mission_text.specs.Columns.{name_of, is_same}
use Rattle.mm_mission_text.specs.declared.column.Column.{Column}
use Rattle.mm_mission_text.specs.declared.fault.Fault.{Fault}
use Rattle.mm_mission_text.specs.declared.fault.Fault.TheVariants.{UnknownColumn, RepeatedColumn, NoColumn}

-- these, then what the rest is read as, each after those before it
unfoldable pub all_in : {R X F : Type 0} → (List R → X → Result R F) → List R → List X → Result (List R) F
all_in next earlier [] = Ok earlier
all_in next earlier (x ∷ xs) = do
  row ← next earlier x
  all_in next (earlier ++ row ∷ []) xs

-- whether a column is among these
abbrev pub has : List Column → Column → Bool
has columns column = list_any (is_same column) columns

-- the column with the next name, if it is one of the known, and none of those before it
unfoldable pub next_column : List Column → List Column → List ℕ → Result Column Fault
next_column known earlier name = do
  column ← ok_or (find (λ column. bytes_eq (name_of column) name) known) (UnknownColumn (length earlier + 1))
  once ← test (not (has earlier column)) (RepeatedColumn (length earlier + 1))
  Ok column

-- the test whether a column is missing
abbrev pub none_missing : Option Column → Result (Unit {0}) Fault
none_missing None = Ok tt
none_missing (Some column) = Err (NoColumn column)

-- the test that none of the needed columns is missing
abbrev pub has_needed : List Column → List Column → Result (Unit {0}) Fault
has_needed needed columns = none_missing (find (λ column. not (has columns column)) needed)

-- the columns in a header, each known, none twice, none of the needed missing
unfoldable pub header_in : List Column → List Column → Fields → Result (List Column) Fault
header_in known needed names = do
  columns ← all_in (next_column known) [] names
  needed_there ← has_needed needed columns
  Ok columns
