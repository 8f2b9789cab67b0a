-- Tables: a header, and rows with entries of one kind.
use Rattle.std.specs.Prelude.{ℕ, ◌+◌, ◌==◌, Bool, List, [], ◌∷◌, length, map, Result, Err, if◌then◌else◌}
use Rattle.std.specs.List.{list_all}
use Rattle.csv.specs.Records.{trimmed}
use Rattle.mm_base.specs.Reading.{◌>>=◌, test}
use Rattle.mm_problem.specs.Records.{Fields, records_of}
use Rattle.mm_mission_text.specs.Headers.{all_in, header_in}
use Rattle.mm_mission_text.specs.Rows.{Line}
use Rattle.mm_mission_text.specs.declared.column.Column.{Column}
use Rattle.mm_mission_text.specs.declared.fault.Fault.{Fault}
use Rattle.mm_mission_text.specs.declared.fault.Fault.TheVariants.{NoHeader, RowLength}

-- the records of a text, without white space at the ends of their cells
abbrev pub rows_of : List ℕ → List Fields
rows_of text = map (map trimmed) (records_of text)

-- whether nothing is written in a row
abbrev pub is_blank : Fields → Bool
is_blank cells = list_all (λ cell. length cell == 0) cells

-- the rows in which something is written, with their numbers, from this number on
unfoldable pub numbered : ℕ → List Fields → List (ℕ × Fields)
numbered number [] = []
numbered number (cells ∷ rows) =
    if is_blank cells then numbered (number + 1) rows else (number, cells) ∷ numbered (number + 1) rows

-- the entry in a row that is as long as the header
unfoldable pub entry_of : {E : Type 0} → (Line → Result E Fault) → List Column → ℕ × Fields → Result E Fault
entry_of entry_in columns row = do
  long ← test (length row.1 == length columns) (RowLength row.0)
  entry_in (record { number = row.0; columns = columns; cells = row.1 })

-- the same, whatever is in the rows before it
abbrev pub next_entry : {E : Type 0} → (Line → Result E Fault) → List Column → List E → ℕ × Fields → Result E Fault
next_entry entry_in columns earlier row = entry_of entry_in columns row

-- the entries of records, the first of which is the header
unfoldable pub table_in : {E : Type 0} → List Column → List Column → (Line → Result E Fault) → List Fields
    → Result (List E) Fault
table_in known needed entry_in [] = Err NoHeader
table_in known needed entry_in (names ∷ rows) = do
  columns ← header_in known needed names
  all_in (next_entry entry_in columns) [] (numbered 1 rows)
