use Rattle.std.proofs.Common.{◌++◌, ◌∷◌, ap, ◌∙◌, arith}
use Rattle.csv.specs.Writing.{default_writer, field_text}
use Rattle.mm_mission_sheet.specs.Cells.{cell_text}
use Rattle.mm_mission_sheet.proofs.CellLemmas.{next_step, no_more}
use Rattle.mm_mission_sheet.proofs.cell.push_more.Goals as goal

pub loop-cell-init : goal.loop-cell-init
loop-cell-init c = no_more c.args.text.now.items

pub loop-cell-preserved : goal.loop-cell-preserved
loop-cell-preserved c =
    let mid = c.loop-cell.text.items in
    next_step c.args.cells.now c.loop-cell.cell-index c.cell-item.result c.args.text.now.items mid
    c.push_next.new.text.items (omega arith) c.loop-cell.invariant (c.in_ok-push_next.ensures
    ∙ ap (λ x. mid ++ 44 ∷ field_text default_writer (cell_text x)) c.cell-item.is)
