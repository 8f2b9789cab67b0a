use Rattle.mm_mission_sheet.specs.Sheets.{row_before, row_cells, loses}
use Rattle.mm_mission_sheet.proofs.SheetLemmas.{rows_more, lost_more}
use Rattle.mm_mission_sheet.proofs.sheet.Flown.push_all_before.Goals as goal

pub loop-store-preserved : goal.loop-store-preserved
loop-store-preserved c =
    let it = c.args.self.now in
    let m = it.flight.mission.now in
    rows_more (row_cells it.flight.begin m it.flight.names.now) _ _ _ c.args.text.now.items c.loop-store.text.items
    c.push_before.new.text.items
    (lost_more (row_before m it.edges.now it.steps.now) loses c.loop-store.store) c.loop-store.invariant
    c.in_ok-push_before.ensures
