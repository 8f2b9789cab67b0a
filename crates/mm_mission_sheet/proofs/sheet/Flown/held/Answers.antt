use Rattle.std.proofs.Common.{arith}
use Rattle.mm_mission_sheet.proofs.SheetLemmas.{ended_below}
use Rattle.mm_mission_sheet.proofs.sheet.Flown.held.Goals as goal

pub step-requires-clause-last : goal.step-requires-clause-last
step-requires-clause-last c =
    omega (arith, ended_below c.args.self.now.edges.now c.args.time c.args.self.now.flown.some, c.ended.ensures)
