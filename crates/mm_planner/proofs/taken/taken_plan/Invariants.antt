use Rattle.std.proofs.Common.{slice_index}
use Rattle.mm_plan.specs.Table.{amount, HasShape}
use Rattle.mm_planner.specs.Taken.{IsTakenTo}
use Rattle.mm_planner.proofs.taken.taken_plan.Given as goal

abbrev pub invariant-loop-step : goal.invariant-loop-step
invariant-loop-step l = record {
  shape : HasShape l.problem l.plan;
  so_far : IsTakenTo l.problem (slice_index l.solved.flow.items) (amount l.plan) l.step 0;
}
