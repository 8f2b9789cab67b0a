use Rattle.std.proofs.Common.{◌≡◌, ◌-◌, ◌++◌}
use Rattle.std.specs.List.{flat_map, range_with_len}
use Rattle.mm_chart.specs.Svg.{height_of, step_outline}
use Rattle.mm_chart.proofs.pen.push_steps.Given as goal

abbrev pub invariant-loop-step : goal.invariant-loop-step
invariant-loop-step l = record {
  text : l.text.items ≡ l.initial.text.items
      ++ flat_map (step_outline l.column.picture.now l.column.series l.whole) (range_with_len 1 (l.step - 1));
  before : l.before ≡ height_of l.column.picture.now l.column.series l.whole (l.step - 1);
}
