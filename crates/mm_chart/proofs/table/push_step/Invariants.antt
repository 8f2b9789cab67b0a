use Rattle.std.proofs.Common.{◌≡◌, ◌++◌}
use Rattle.std.specs.List.{flat_map, range_with_len}
use Rattle.mm_plan.specs.Table.{amount}
use Rattle.mm_chart.specs.Table.{record_of}
use Rattle.mm_chart.proofs.table.push_step.Given as goal

abbrev pub invariant-loop-store : goal.invariant-loop-store
invariant-loop-store l =
    l.text.items ≡ l.initial.text.items
    ++ flat_map (record_of l.course.problem.now (amount l.course.plan.now) l.step) (range_with_len 0 l.store)
