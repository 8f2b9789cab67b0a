use Rattle.std.proofs.Common.{◌≡◌, ◌-◌, length, arith}
use Rattle.mm_mission.proofs.table.table.Goals as goal

pub returns : goal.returns
returns c =
    let last : c.loop-step.step - 1 ≡ length c.args.edges.now - 1 = omega arith in
    rw last at c.loop-step.invariant.cells
