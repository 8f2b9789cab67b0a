use Rattle.std.proofs.Common.{◌≡◌, ◌-◌, ◌≤◌, ◌++◌, max, length}
use Rattle.std.specs.Prelude.{map}
use Rattle.std.specs.List.{range_with_len}
use Rattle.mm_mission.specs.Packets.{held_by, step_in}
use Rattle.mm_mission.specs.Timeline.{amount}
use Rattle.mm_mission.proofs.packets.push_steps.Given as goal

abbrev pub invariant-loop-step : goal.invariant-loop-step
invariant-loop-step l = record {
  steps : l.steps.items
      ≡ l.fn.steps.items
      ++ map (step_in l.mission l.edges (amount l.mission l.amounts) l.store) (range_with_len 1 (l.step - 1));
  held : l.held ≡ held_by l.mission l.edges (amount l.mission l.amounts) l.store (l.step - 1);
  within : l.step ≤ max 1 (length l.edges);
}
