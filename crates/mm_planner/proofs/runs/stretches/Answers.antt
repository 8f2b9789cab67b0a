use Rattle.mm_flow.specs.Solution.{side_of}
use Rattle.mm_planner.specs.Runs.{stretches_of}
use Rattle.mm_planner.proofs.RunLists.{stores_more}
use Rattle.mm_planner.proofs.runs.stretches.Goals as goal

pub loop-store-preserved : goal.loop-store-preserved
loop-store-preserved c =
    stores_more (stretches_of c.args.problem.now (side_of c.args.side.now)) c.loop-store.store c.loop-store.runs.items c.add_runs.new.stretches.items c.loop-store.invariant c.in_ok-add_runs.ensures.added
