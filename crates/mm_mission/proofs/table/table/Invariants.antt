use Rattle.std.proofs.Common.{◌≡◌, ◌-◌, ◌≤◌, max, length}
use Rattle.std.specs.List.{flat_map, range_with_len}
use Rattle.mm_mission.specs.Planned.{growths}
use Rattle.mm_mission.proofs.table.table.Given as goal

abbrev pub invariant-loop-step : goal.invariant-loop-step
invariant-loop-step l = record {
  cells : l.cells.items ≡ flat_map (growths l.mission l.counters l.edges) (range_with_len 1 (l.step - 1));
  within : l.step ≤ max 1 (length l.edges);
}
