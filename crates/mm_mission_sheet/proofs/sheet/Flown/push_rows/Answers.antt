use Rattle.mm_mission_sheet.specs.Sheets.{rows_before, rows_in, row_cells}
use Rattle.mm_mission_sheet.proofs.SheetLemmas.{rows_more, passes_more}
use Rattle.mm_mission_sheet.proofs.sheet.Flown.push_rows.Goals as goal

pub loop-pass-preserved : goal.loop-pass-preserved
loop-pass-preserved c =
    let it = c.args.self.now in
    let m = it.flight.mission.now in
    rows_more (row_cells it.flight.begin m it.flight.names.now) _ _ _ c.args.text.now.items c.loop-pass.text.items
    c.push_pass.new.text.items
    (passes_more (rows_before m it.edges.now it.steps.now) (rows_in m it.edges.now it.steps.now) c.loop-pass.pass)
    c.loop-pass.invariant c.in_ok-push_pass.ensures
