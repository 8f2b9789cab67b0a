use Rattle.mm_plan.specs.Table.{amount, HasShape}
use Rattle.mm_plan.specs.Filling.{IsRest}
use Rattle.mm_plan.proofs.Rests.{IsServedBelow}
use Rattle.mm_plan.proofs.filling.use_rest.Given as goal

abbrev pub invariant-loop-store : goal.invariant-loop-store
invariant-loop-store l = record {
  shape : HasShape l.problem l.plan;
  rest : IsRest l.problem (amount l.plan) l.step l.rest.idle l.rest.by_channel;
  served : IsServedBelow l.problem (amount l.fn.plan) (amount l.plan) l.step l.store l.left;
}
