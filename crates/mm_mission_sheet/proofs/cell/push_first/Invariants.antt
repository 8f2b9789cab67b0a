use Rattle.std.proofs.Common.{◌≡◌, ◌++◌, map, take}
use Rattle.csv.specs.Writing.{default_writer, row_body}
use Rattle.mm_mission_sheet.specs.Cells.{cell_text}
use Rattle.mm_mission_sheet.proofs.cell.push_first.Given as goal

abbrev pub invariant-loop-place : goal.invariant-loop-place
invariant-loop-place l = l.text.items ≡ l.fn.text.items ++ row_body default_writer (map cell_text (take l.place l.cells))
