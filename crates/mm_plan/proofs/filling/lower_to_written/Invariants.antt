use Rattle.mm_plan.specs.Table.{amount, HasShape}
use Rattle.mm_plan.proofs.Lowering.{IsLoweredBelow}
use Rattle.mm_plan.proofs.filling.lower_to_written.Given as goal

abbrev pub invariant-loop-store : goal.invariant-loop-store
invariant-loop-store l = record {
  shape : HasShape l.problem l.plan;
  lowered : IsLoweredBelow l.problem (amount l.fn.plan) (amount l.plan) l.step l.store l.left;
}
