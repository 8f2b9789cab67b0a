use Rattle.std.proofs.Common.{◌≡◌, ◌-◌, ◌++◌}
use Rattle.std.specs.List.{flat_map, range_with_len}
use Rattle.mm_chart.specs.Words.{range_part}
use Rattle.mm_chart.proofs.marked.push_in_steps.Given as goal

abbrev pub invariant-loop-step : goal.invariant-loop-step
invariant-loop-step l =
    l.text.items ≡ l.initial.text.items
    ++ flat_map (range_part l.column.picture.now l.column.series) (range_with_len 1 (l.step - 1))
