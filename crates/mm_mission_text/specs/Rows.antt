-- The rows of a table.
use Rattle.std.specs.Prelude.{ℕ, ◌==◌, nat_lt, if◌then◌else◌, List, [], ◌∷◌, length, Option, Some, None, Result, Ok}
use Rattle.std.specs.Prelude.{option_and_then, position}
use Rattle.std.specs.Option.{ok_or}
use Rattle.csv.specs.Records.{fields_of, field_at}
use Rattle.mm_base.specs.Reading.{◌>>=◌, test}
use Rattle.mm_problem.specs.Records.{Fields}
use Rattle.mm_utc.specs.declared.amount.Rate.{Rate}
use Rattle.mm_mission_text.specs.Cells.{told_as, moment_of, rate_of}
use Rattle.mm_mission_text.specs.Columns.{is_same}
use Rattle.mm_mission_text.specs.declared.column.Column.{Column}
use Rattle.mm_mission_text.specs.declared.column.Column.TheVariants as column
use Rattle.mm_mission_text.specs.declared.fault.Fault.{Fault}
use Rattle.mm_mission_text.specs.declared.fault.Fault.TheVariants.{Cell}
use Rattle.mm_mission_text.specs.declared.fault.Why.{Why}
use Rattle.mm_mission_text.specs.declared.fault.Why.TheVariants.{Missing, NotLater}
use Rattle.mm_mission_text.specs.declared.row.Row.{Row}

-- a row: its number, the columns of its table, and its cells
pub record Line : Type 0 where
  pub number : ℕ
  pub columns : List Column
  pub cells : Fields

-- a row of the program
abbrev pub seen : Row → Line
seen row = record { number = row.number; columns = row.columns.now; cells = fields_of row.cells.now }

-- a cell, if anything is written in it
abbrev pub filled : List ℕ → Option (List ℕ)
filled text = if length text == 0 then None else Some text

-- what is written below a column, if the table has the column and anything is written there
unfoldable pub cell_in : Line → Column → Option (List ℕ)
cell_in line column =
    option_and_then filled (option_and_then (field_at line.cells) (position (is_same column) line.columns))

-- the value that a cell writes, if anything is written in it
abbrev pub value_of : {X : Type 0} → (List ℕ → Result X Why) → Option (List ℕ) → Result (Option X) Why
value_of reads None = Ok None
value_of reads (Some text) = reads text >>= λ x. Ok (Some x)

-- the value below a column, if any is written
unfoldable pub optional_in : {X : Type 0} → (List ℕ → Result X Why) → Line → Column → Result (Option X) Fault
optional_in reads line column = told_as (Cell line.number column) (value_of reads (cell_in line column))

-- the value below a column, which must be there
unfoldable pub needed_in : {X : Type 0} → (List ℕ → Result X Why) → Line → Column → Result X Fault
needed_in reads line column = do
  found ← optional_in reads line column
  ok_or found (Cell line.number column Missing)

-- the begin and the later end
unfoldable pub span_in : Line → Result (ℕ × ℕ) Fault
span_in line = do
  begin ← needed_in moment_of line column.Begin
  end ← needed_in moment_of line column.End
  later ← test (nat_lt begin end) (Cell line.number column.End NotLater)
  Ok (begin, end)

-- the rates of channels, from channel 0 on
unfoldable pub channels_in : Line → Result (List (Option Rate)) Fault
channels_in line = do
  rate0 ← optional_in rate_of line column.Channel0
  rate1 ← optional_in rate_of line column.Channel1
  rate2 ← optional_in rate_of line column.Channel2
  rate3 ← optional_in rate_of line column.Channel3
  rate4 ← optional_in rate_of line column.Channel4
  rate5 ← optional_in rate_of line column.Channel5
  rate6 ← optional_in rate_of line column.Channel6
  rate7 ← optional_in rate_of line column.Channel7
  Ok (rate0 ∷ rate1 ∷ rate2 ∷ rate3 ∷ rate4 ∷ rate5 ∷ rate6 ∷ rate7 ∷ [])
