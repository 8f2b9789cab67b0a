use Rattle.std.proofs.Common.{◌≡◌, ◌-◌, ◌≤◌}
use Rattle.std.specs.List.{sum_by, range_with_len}
use Rattle.mm_chart.specs.Series.{one_if}
use Rattle.mm_chart.specs.Words.{is_marked, begins}
use Rattle.mm_chart.proofs.marked.marks_of.Given as goal

abbrev pub invariant-loop-step : goal.invariant-loop-step
invariant-loop-step l = record {
  steps : l.steps ≡ sum_by (λ t. one_if (is_marked l.column.picture.now l.column.series t)) (range_with_len 1 (l.step - 1));
  ranges : l.ranges ≡ sum_by (begins l.column.picture.now l.column.series) (range_with_len 1 (l.step - 1));
  most_steps : l.steps ≤ l.step - 1;
  most_ranges : l.ranges ≤ l.step - 1;
}
