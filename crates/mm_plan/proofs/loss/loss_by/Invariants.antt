use Rattle.std.proofs.Common.{◌≡◌, ◌-◌, ◌*◌, ◌≤◌}
use Rattle.std.specs.List.{sum_by, range_with_len}
use Rattle.mm_base.specs.declared.limits.TheConstants.{MAX_BLOCKS}
use Rattle.mm_plan.specs.Table.{amount}
use Rattle.mm_plan.specs.Volumes.{left, lost}
use Rattle.mm_plan.proofs.loss.loss_by.Given as goal

abbrev pub invariant-loop-step : goal.invariant-loop-step
invariant-loop-step l = record {
  left : l.left ≡ left l.problem (amount l.plan) l.store (l.step - 1);
  held : l.left ≤ MAX_BLOCKS;
  lost : l.lost ≡ sum_by (lost l.problem (amount l.plan) l.store) (range_with_len 1 (l.step - 1));
  most : l.lost ≤ 2 * MAX_BLOCKS * (l.step - 1);
}
