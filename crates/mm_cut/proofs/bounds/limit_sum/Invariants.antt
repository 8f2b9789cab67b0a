use Rattle.std.proofs.Common.{◌≡◌, ◌*◌, ◌≤◌}
use Rattle.std.specs.Prelude.{filter}
use Rattle.std.specs.List.{sum_by, range_with_len}
use Rattle.mm_base.specs.declared.limits.TheConstants.{MAX_BLOCKS}
use Rattle.mm_cut.specs.Stretches.{is_inner_on}
use Rattle.mm_cut.specs.Cuts.{limit_or_0}
use Rattle.mm_cut.proofs.bounds.limit_sum.Given as goal

abbrev pub invariant-loop-channel : goal.invariant-loop-channel
invariant-loop-channel l = record {
  sum : l.sum ≡ sum_by (limit_or_0 l.problem l.step) (filter (is_inner_on l.problem l.stretches l.step) (range_with_len 0 l.channel));
  most : l.sum ≤ l.channel * MAX_BLOCKS;
}
