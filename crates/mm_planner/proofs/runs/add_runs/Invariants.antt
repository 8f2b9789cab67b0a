use Rattle.std.proofs.Common.{◌≡◌, ◌-◌, ◌++◌, map}
use Rattle.std.specs.Prelude.{filter}
use Rattle.std.specs.List.{range_with_len}
use Rattle.mm_flow.specs.Solution.{side_of}
use Rattle.mm_planner.specs.Runs.{is_end, first_step, stretch}
use Rattle.mm_planner.proofs.runs.add_runs.Given as goal

abbrev pub invariant-loop-step : goal.invariant-loop-step
invariant-loop-step l = record {
  first : l.first ≡ first_step (side_of l.side) l.store l.step;
  so_far : l.stretches.items ≡ l.fn.stretches.items ++ map (stretch l.problem (side_of l.side) l.store) (filter (is_end (side_of l.side) l.store) (range_with_len 1 (l.step - 1)));
}
