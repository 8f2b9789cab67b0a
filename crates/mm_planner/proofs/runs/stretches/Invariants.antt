use Rattle.std.proofs.Common.{◌≡◌}
use Rattle.std.specs.List.{range_with_len, flat_map}
use Rattle.mm_flow.specs.Solution.{side_of}
use Rattle.mm_planner.specs.Runs.{stretches_of}
use Rattle.mm_planner.proofs.runs.stretches.Given as goal

abbrev pub invariant-loop-store : goal.invariant-loop-store
invariant-loop-store l = l.runs.items ≡ flat_map (stretches_of l.problem (side_of l.side)) (range_with_len 0 l.store)
