use Rattle.std.proofs.Common.{◌≡◌, length}
use Rattle.mm_base.specs.declared.limits.TheConstants.{MAX_STORES}
use Rattle.mm_plan.specs.Table.{amount, HasShape}
use Rattle.mm_plan.proofs.Fills.{IsDoneBefore}
use Rattle.mm_plan.proofs.filling.fill.Given as goal

abbrev pub invariant-loop-step : goal.invariant-loop-step
invariant-loop-step l = record {
  shape : HasShape l.problem l.filled;
  places : length l.left ≡ MAX_STORES;
  done : IsDoneBefore l.problem (amount l.plan) (amount l.filled) l.step l.left;
}
