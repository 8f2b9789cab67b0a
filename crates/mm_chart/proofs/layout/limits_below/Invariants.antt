use Rattle.std.proofs.Common.{◌≡◌, ◌≤◌}
use Rattle.std.specs.List.{sum_by, range_with_len}
use Rattle.mm_chart.specs.Layout.{has_limit}
use Rattle.mm_chart.proofs.layout.limits_below.Given as goal

abbrev pub invariant-loop-other : goal.invariant-loop-other
invariant-loop-other l = record {
  count : l.count ≡ sum_by (has_limit l.problem) (range_with_len 0 l.other);
  most : l.count ≤ l.other;
}
