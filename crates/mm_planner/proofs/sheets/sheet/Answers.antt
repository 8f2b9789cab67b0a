use Rattle.std.proofs.Common.{sym, subst}
use Rattle.mm_planner.specs.PlanTexts.{IsPlain, IsSheetFor}
use Rattle.mm_planner.proofs.SheetLimits.{plain_sheet}
use Rattle.mm_planner.proofs.sheets.sheet.Goals as goal

pub returns : goal.returns
returns c =
    let q = c.args.problem.now in
    let stores = c.in_ok-stores.ensures in
    subst (IsSheetFor IsPlain q) (sym c.new.ensures)
    (plain_sheet c.cuts_are_few.ensures q c.in_ok-stores.stores.items c.in_ok-planned.planned
    c.store_ids.ensures.problem stores.ids stores.each c.in_ok-planned.ensures.least)
