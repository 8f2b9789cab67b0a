-- The mission that a text in TOML says, read in the order in which faults are found.
use Rattle.std.specs.Prelude.{ℕ, ◌+◌, List, [], ◌∷◌, length, Option, Some, None, option_map, unwrap_or, Result, Ok, Err}
use Rattle.std.specs.Prelude.{if◌then◌else◌}
use Rattle.std.specs.Option.{ok_or}
use Rattle.std.specs.Str.{is_utf8}
use Rattle.toml.specs.Data.{Data, Members, get_member, as_str, as_array, as_table}
use Rattle.toml.specs.Parse.{parse_document}
use Rattle.mm_base.specs.Reading.{◌>>=◌}
use Rattle.mm_problem.specs.Keys.{elements}
use Rattle.mm_mission_text.specs.Cells.{told_as, text_of, moment_of, octets_of, block_of, unit_of, overlap_of}
use Rattle.mm_mission_text.specs.Columns.{name_of}
use Rattle.mm_mission_text.specs.Entries.{store_columns, store_in, station_columns, station_in}
use Rattle.mm_mission_text.specs.Entries.{pass_columns, pass_in, observation_columns, observation_in}
use Rattle.mm_mission_text.specs.Given.{Given}
use Rattle.mm_mission_text.specs.Headers.{all_in}
use Rattle.mm_mission_text.specs.Rows.{Line, optional_in}
use Rattle.mm_mission_text.specs.Values.{cells_in, strange_key}
use Rattle.mm_mission_text.specs.declared.cell.TheConstants.{OCTETS}
use Rattle.mm_mission_text.specs.declared.column.Column.{Column}
use Rattle.mm_mission_text.specs.declared.column.Column.TheVariants as column
use Rattle.mm_mission_text.specs.declared.fault.Fault.{Fault}
use Rattle.mm_mission_text.specs.declared.mission_fault.MissionFault.{MissionFault}
use Rattle.mm_mission_text.specs.declared.mission_fault.MissionFault.TheVariants.{NotUtf8, NotToml, UnknownKey}
use Rattle.mm_mission_text.specs.declared.mission_fault.MissionFault.TheVariants.{NotTables, NotFile, In}
use Rattle.mm_mission_text.specs.declared.document.MissionText.{MissionText}
use Rattle.mm_mission_text.specs.declared.whole.Whole.{Whole}

-- the fault of a key that none of a table's keys is
abbrev pub none_strange : Option Column → ℕ → Option (List ℕ) → Result (Unit {0}) MissionFault
none_strange table row None = Ok tt
none_strange table row (Some key) = Err (UnknownKey table row key)

-- the row of a table with these columns, whose other keys are read elsewhere
unfoldable pub line_in : Option Column → ℕ → List Column → List Column → Members → Result Line MissionFault
line_in table row columns others members = do
  known ← none_strange table row (strange_key columns others members)
  cells ← told_as (In table) (cells_in row columns members)
  Ok (record { number = row; columns = columns; cells = cells })

-- the columns of what a text says of the mission as a whole, and its other keys
abbrev pub whole_columns : List Column
whole_columns =
    column.Name ∷ column.Begin ∷ column.End ∷ column.Packet ∷ column.Block ∷ column.Overlap ∷ column.Unit ∷ []

abbrev pub other_keys : List Column
other_keys =
    column.Store ∷ column.Station ∷ column.Pass ∷ column.Observation
    ∷ column.Stores ∷ column.Stations ∷ column.Passes ∷ column.Observations ∷ []

-- the mission as a whole, whose packets and blocks have 1,024 octets if nothing else is written
unfoldable pub whole_in : Line → Result Whole Fault
whole_in line = do
  name ← optional_in text_of line column.Name
  begin ← optional_in moment_of line column.Begin
  end ← optional_in moment_of line column.End
  packet ← optional_in octets_of line column.Packet
  block ← optional_in block_of line column.Block
  overlap ← optional_in overlap_of line column.Overlap
  unit ← optional_in unit_of line column.Unit
  Ok (record {
    name = name;
    begin = begin;
    end = end;
    packet = unwrap_or packet OCTETS;
    block = unwrap_or block OCTETS;
    overlap = overlap;
    unit = unwrap_or unit 0;
  })

-- the mission as a whole, by the keys of a document
unfoldable pub whole_at : Members → Result Whole MissionFault
whole_at document = do
  line ← line_in None 0 whole_columns other_keys document
  told_as (In None) (whole_in line)

-- the entry in a table of an array
unfoldable pub entry_at : {E : Type 0} → Column → List Column → List Column → (Line → Result E Fault) → ℕ → Data
    → Result E MissionFault
entry_at table columns others entry_in row value = do
  members ← ok_or (as_table value) (NotTables table)
  line ← line_in (Some table) row columns others members
  told_as (In (Some table)) (entry_in line)

-- the entry in the next table
abbrev pub entry_after : {E : Type 0} → Column → List Column → List Column → (Line → Result E Fault) → List E → Data
    → Result E MissionFault
entry_after table columns others entry_in earlier value =
    entry_at table columns others entry_in (length earlier + 1) value

-- the elements of an array, none if the array is missing
abbrev pub tables_from : Column → Option Data → Result (List Data) MissionFault
tables_from table None = Ok []
tables_from table (Some value) = ok_or (option_map elements (as_array value)) (NotTables table)

-- the name of a file, if one is named
abbrev pub file_from : Column → Option Data → Result (Option (List ℕ)) MissionFault
file_from key None = Ok None
file_from key (Some value) = ok_or (option_map Some (as_str value)) (NotFile key)

-- the entries of a document in its array of tables, and the file that it names for more of them
unfoldable pub given_in : {E : Type 0} → Column → Column → List Column → List Column → (Line → Result E Fault)
    → Members → Result (Given E) MissionFault
given_in table file columns others entry_in document = do
  tables ← tables_from table (get_member (name_of table) document)
  entries ← all_in (entry_after table columns others entry_in) [] tables
  name ← file_from file (get_member (name_of file) document)
  Ok (record { entries = entries; file = name })

-- the mission of a document
unfoldable pub mission_at : Members → Result MissionText MissionFault
mission_at document = do
  whole ← whole_at document
  stores ← given_in column.Store column.Stores store_columns [] store_in document
  stations ← given_in column.Station column.Stations station_columns (column.Channels ∷ []) station_in document
  passes ← given_in column.Pass column.Passes pass_columns (column.Channels ∷ []) pass_in document
  observations ← given_in column.Observation column.Observations observation_columns [] observation_in document
  Ok (record {
    whole = whole;
    stores = stores;
    stations = stations;
    passes = passes;
    observations = observations;
  })

-- the document that a text in UTF-8 spells
abbrev pub document_of : List ℕ → Result Members MissionFault
document_of text = if is_utf8 text then ok_or (parse_document text) (NotToml tt) else Err NotUtf8

-- the mission that a text says
unfoldable pub mission_in : List ℕ → Result MissionText MissionFault
mission_in text = do
  document ← document_of text
  mission_at document
