use Rattle.mm_plan.specs.Table.{amount, HasShape}
use Rattle.mm_keep.specs.Joining.{AreJoinedTo}
use Rattle.mm_keep.proofs.joining.joined.Given as goal

abbrev pub invariant-loop-step : goal.invariant-loop-step
invariant-loop-step l = record {
  shape : HasShape l.problem l.joined;
  so_far : AreJoinedTo l.problem l.last l.plan l.rest (amount l.joined) l.step 0;
}
