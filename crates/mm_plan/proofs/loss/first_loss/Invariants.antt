use Rattle.std.proofs.Common.{◌≡◌, ◌*◌, ◌≤◌}
use Rattle.std.specs.List.{sum_by, range_with_len}
use Rattle.mm_base.specs.declared.limits.TheConstants.{MAX_BLOCKS, MAX_STEPS}
use Rattle.mm_plan.specs.Table.{amount}
use Rattle.mm_plan.specs.Volumes.{store_loss}
use Rattle.mm_plan.proofs.loss.first_loss.Given as goal

abbrev pub invariant-loop-store : goal.invariant-loop-store
invariant-loop-store l = record {
  lost : l.lost ≡ sum_by (store_loss l.problem (amount l.plan)) (range_with_len 0 l.store);
  most : l.lost ≤ 2 * MAX_BLOCKS * MAX_STEPS * l.store;
}
