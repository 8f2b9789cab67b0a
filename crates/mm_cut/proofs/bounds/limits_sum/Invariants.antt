use Rattle.std.proofs.Common.{◌≡◌, ◌-◌, ◌*◌, ◌≤◌}
use Rattle.std.specs.Prelude.{filter}
use Rattle.std.specs.List.{sum_by, range_with_len}
use Rattle.mm_base.specs.declared.limits.TheConstants.{MAX_BLOCKS, CHANNELS}
use Rattle.mm_cut.specs.Cuts.{limit_sum, counts_limits}
use Rattle.mm_cut.proofs.bounds.limits_sum.Given as goal

abbrev pub invariant-loop-step : goal.invariant-loop-step
invariant-loop-step l = record {
  sum : l.sum ≡ sum_by (limit_sum l.marks.problem.now l.marks.stretches.now) (filter (counts_limits l.marks.problem.now l.marks.stretches.now l.marks.counts.now) (range_with_len 1 (l.step - 1)));
  most : l.sum ≤ (l.step - 1) * (CHANNELS * MAX_BLOCKS);
}
