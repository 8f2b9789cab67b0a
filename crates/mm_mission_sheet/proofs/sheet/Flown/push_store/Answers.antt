use Rattle.std.proofs.Common.{arith}
use Rattle.mm_mission_sheet.proofs.SheetLemmas.{passes_few}
use Rattle.mm_mission_sheet.proofs.sheet.Flown.push_store.Goals as goal

pub overflow_add-pass : goal.overflow_add-pass
overflow_add-pass c =
    omega (arith, passes_few c.args.self.now.flight.mission.now c.span.ensures.is_mission, c.requires.pass)
