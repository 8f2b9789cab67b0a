use Rattle.std.proofs.Common.{◌-◌, ◌≤◌, length}
use Rattle.mm_mission.specs.Packets.{sent_in}
use Rattle.mm_mission.specs.Timeline.{AreSent}
use Rattle.mm_mission.proofs.dumps.push_store.Given as goal

abbrev pub invariant-loop-step : goal.invariant-loop-step
invariant-loop-step l = record {
  sent : AreSent l.mission l.edges (sent_in l.edges l.steps) l.store (l.step - 1) l.dumps.items;
  within : l.step ≤ length l.edges;
}
