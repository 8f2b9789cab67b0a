use Rattle.std.proofs.Common.{◌++◌, ap, ◌∙◌, arith}
use Rattle.csv.specs.Writing.{default_writer, field_text, next_sep}
use Rattle.mm_mission_sheet.specs.Cells.{cell_text}
use Rattle.mm_mission_sheet.proofs.CellLemmas.{cells_step}
use Rattle.mm_mission_sheet.proofs.cell.push_first.Goals as goal

pub loop-place-preserved : goal.loop-place-preserved
loop-place-preserved c =
    let mid = c.loop-place.text.items in
    let place = c.loop-place.place in
    cells_step c.args.cells.now place c.index-cells-place.result c.args.text.now.items mid c.push_cell.new.text.items
    (omega arith) c.loop-place.invariant (c.in_ok-push_cell.ensures
    ∙ ap (λ x. (mid ++ next_sep default_writer place) ++ field_text default_writer (cell_text x)) c.index-cells-place.is)
