use Rattle.std.proofs.Common.{◌≡◌, ◌++◌, map, take}
use Rattle.csv.specs.Writing.{default_writer, fields_text}
use Rattle.mm_mission_sheet.specs.Cells.{cell_text}
use Rattle.mm_mission_sheet.proofs.cell.push_more.Given as goal

abbrev pub invariant-loop-cell : goal.invariant-loop-cell
invariant-loop-cell l =
    l.text.items ≡ l.fn.text.items ++ fields_text default_writer (map cell_text (take l.cell-index l.cells))
