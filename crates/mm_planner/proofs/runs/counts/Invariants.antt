use Rattle.std.proofs.Common.{◌≡◌, ◌-◌}
use Rattle.std.specs.Prelude.{filter}
use Rattle.std.specs.List.{range_with_len}
use Rattle.mm_flow.specs.Solution.{side_of}
use Rattle.mm_planner.specs.Runs.{is_by_channels}
use Rattle.mm_planner.proofs.runs.counts.Given as goal

abbrev pub invariant-loop-step : goal.invariant-loop-step
invariant-loop-step l = l.counts.items ≡ filter (is_by_channels l.problem (side_of l.side) l.stretches) (range_with_len 1 (l.step - 1))
