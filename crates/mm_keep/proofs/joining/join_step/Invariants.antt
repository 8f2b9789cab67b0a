use Rattle.mm_plan.specs.Table.{amount, HasShape}
use Rattle.mm_keep.specs.Joining.{AreJoinedTo}
use Rattle.mm_keep.proofs.joining.join_step.Given as goal

abbrev pub invariant-loop-store : goal.invariant-loop-store
invariant-loop-store l = record {
  shape : HasShape l.problem l.joined;
  so_far : AreJoinedTo l.problem l.last l.plan l.rest (amount l.joined) l.step l.store;
}
