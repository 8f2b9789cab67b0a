-- The tables of a text in TOML, as rows of cells.
use Rattle.std.specs.Prelude.{ℕ, ◌||◌, not, List, [], Option, Some, None, option_and_then, Result, Ok, Err}
use Rattle.std.specs.Prelude.{codes, if◌then◌else◌, is_ok}
use Rattle.std.specs.Fmt.{signed_decimal}
use Rattle.std.specs.List.{find, list_all}
use Rattle.std.specs.Option.{ok_or}
use Rattle.toml.specs.Data.{Data, string, integer, float, datetime, Members, get_member, as_table}
use Rattle.toml_datetime.specs.Text.{datetime_text}
use Rattle.mm_base.specs.Reading.{◌>>=◌, test}
use Rattle.mm_problem.specs.Keys.{keys_of}
use Rattle.mm_problem.specs.Records.{Fields}
use Rattle.mm_mission_text.specs.Cells.{told_as, channel_of}
use Rattle.mm_mission_text.specs.Columns.{name_of, channel_key, is_named, word_columns}
use Rattle.mm_mission_text.specs.Headers.{all_in, has}
use Rattle.mm_mission_text.specs.declared.column.Column.{Column}
use Rattle.mm_mission_text.specs.declared.column.Column.TheVariants as column
use Rattle.mm_mission_text.specs.declared.fault.Fault.{Fault}
use Rattle.mm_mission_text.specs.declared.fault.Fault.TheVariants.{Cell}
use Rattle.mm_mission_text.specs.declared.fault.Why.{Why}
use Rattle.mm_mission_text.specs.declared.fault.Why.TheVariants.{Unquoted, Decimal, NotCell}
use Rattle.mm_mission_text.specs.declared.fault.Why.TheVariants.{NotChannel, NotChannels, Twice}

-- a number or a moment as it is printed, where no word is meant
abbrev pub printed : Column → List ℕ → Result (List ℕ) Why
printed key text = if has word_columns key then Err Unquoted else Ok text

-- the cell that a value writes below a column, which is its key
abbrev pub cell_of : Column → Data → Result (List ℕ) Why
cell_of key (string text) = Ok text
cell_of key (integer number) = printed key (signed_decimal number)
cell_of key (datetime moment) = printed key (datetime_text moment)
cell_of key (float number) = Err Decimal
cell_of key other = Err NotCell

-- the cell of a value, empty if there is none
abbrev pub cell_from : Column → Option Data → Result (List ℕ) Why
cell_from key None = Ok []
cell_from key (Some value) = cell_of key value

-- the one of two values that is there
abbrev pub one_of : Option Data → Option Data → Result (Option Data) Why
one_of None other = Ok other
one_of (Some value) None = Ok (Some value)
one_of (Some value) (Some other) = Err Twice

-- the value for a channel in the table `channels`
abbrev pub value_among : Option Members → Column → Option Data
value_among channels column =
    option_and_then (λ key. option_and_then (get_member key) channels) (channel_key column)

-- the cell below a column, by its own key or that of its channel
unfoldable pub cell_at : Members → Option Members → Column → Result (List ℕ) Why
cell_at members channels column = do
  value ← one_of (get_member (name_of column) members) (value_among channels column)
  cell_from column value

-- the same, whatever the cells before it are
abbrev pub next_cell : ℕ → Members → Option Members → List (List ℕ) → Column → Result (List ℕ) Fault
next_cell row members channels earlier column = told_as (Cell row column) (cell_at members channels column)

-- the table that a value is, with channels from 0 to 7 as its keys
unfoldable pub channels_of : ℕ → Data → Result Members Fault
channels_of row value = do
  channels ← ok_or (as_table value) (Cell row column.Channels NotChannels)
  known ← test (list_all (λ key. is_ok (channel_of key)) (keys_of channels)) (Cell row column.Channels NotChannel)
  Ok channels

-- the table `channels`, if there is one
abbrev pub channels_from : ℕ → Option Data → Result (Option Members) Fault
channels_from row None = Ok None
channels_from row (Some value) = channels_of row value >>= λ channels. Ok (Some channels)

-- the cells of a table below these columns
unfoldable pub cells_in : ℕ → List Column → Members → Result Fields Fault
cells_in row columns members = do
  channels ← channels_from row (get_member (codes "channels") members)
  all_in (next_cell row members channels) [] columns

-- the first key, in the order of bytes, that is neither a column nor one of the others
abbrev pub strange_key : List Column → List Column → Members → Option (List ℕ)
strange_key columns others members = find (λ key. not (is_named columns key || is_named others key)) (keys_of members)
