use Rattle.std.proofs.Common.{◌≡◌, ◌-◌, ◌++◌}
use Rattle.std.specs.List.{flat_map, range_with_len}
use Rattle.mm_plan.specs.Table.{amount}
use Rattle.mm_chart.specs.Table.{step_records}
use Rattle.mm_chart.proofs.table.table_of.Given as goal

abbrev pub invariant-loop-step : goal.invariant-loop-step
invariant-loop-step l =
    l.text.items ≡ l.initial.text.items
    ++ flat_map (step_records l.problem (amount l.plan)) (range_with_len 1 (l.step - 1))
