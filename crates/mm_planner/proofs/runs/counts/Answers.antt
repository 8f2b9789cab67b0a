use Rattle.std.proofs.Common.{arith}
use Rattle.mm_flow.specs.Solution.{side_of}
use Rattle.mm_planner.specs.Runs.{is_by_channels}
use Rattle.mm_planner.proofs.RunLists.{steps_more}
use Rattle.mm_planner.proofs.runs.counts.Goals as goal

pub loop-step-preserved : goal.loop-step-preserved
loop-step-preserved c =
    steps_more (is_by_channels c.args.problem.now (side_of c.args.side.now) c.args.stretches.now) c.loop-step.step c.loop-step.counts.items c.add_count.new.counts.items (omega arith) c.loop-step.invariant c.in_ok-add_count.ensures.added
