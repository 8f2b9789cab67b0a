-- Tables as comma separated values (RFC 4180). Lines end with a line feed, as those of the Python package do.
use Rattle.std.specs.Prelude.{ℕ, List, decimal}
use Rattle.std.specs.List.{flat_map}
use Rattle.csv.specs.Writing.{default_writer, row_text}
use Rattle.mm_base.specs.Id.{id_text}
use Rattle.mm_mission_sheet.specs.Dates.{utc_text}
use Rattle.mm_mission_sheet.specs.declared.cell.Cell.{Cell}
use Rattle.mm_mission_sheet.specs.declared.cell.Cell.TheVariants.{Text, Id, Number, Moment}

-- what a cell shows
abbrev pub cell_text : Cell → List ℕ
cell_text (Text text) = text.now
cell_text (Id id) = id_text id
cell_text (Number n) = decimal n
cell_text (Moment m) = utc_text m

-- the line of these cells: a cell with a comma, a quote or the end of a line stands in quotes, and its quotes are
-- written twice
abbrev pub csv_line : List (List ℕ) → List ℕ
csv_line cells = row_text default_writer cells

-- a table: its lines, one after the other
abbrev pub csv_text : List (List (List ℕ)) → List ℕ
csv_text lines = flat_map csv_line lines
