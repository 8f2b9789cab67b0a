use Rattle.std.proofs.Common.{◌≡◌, ◌*◌, ◌≤◌, take}
use Rattle.std.specs.List.{sum_by}
use Rattle.mm_mission.specs.declared.limits.TheConstants.{MAX_RATE, MAX_TIME}
use Rattle.mm_mission.specs.Flows.{sent_by}
use Rattle.mm_mission.proofs.mission.Mission.sent.Given as goal

abbrev pub invariant-loop-pass : goal.invariant-loop-pass
invariant-loop-pass l = record {
  units : l.units ≡ sum_by (sent_by l.self l.channel l.time) (take l.pass-index l.self.passes);
  most : l.units ≤ l.pass-index * (MAX_RATE * MAX_TIME);
}
