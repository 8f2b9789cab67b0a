use Rattle.std.proofs.Common.{◌≡◌, ◌*◌, ◌≤◌, take}
use Rattle.std.specs.Prelude.{filter}
use Rattle.std.specs.List.{sum_by}
use Rattle.mm_mission.specs.declared.limits.TheConstants.{MAX_RATE, MAX_TIME}
use Rattle.mm_mission.specs.Flows.{come_by, is_into}
use Rattle.mm_mission.proofs.mission.Mission.come_octets.Given as goal

abbrev pub invariant-loop-one : goal.invariant-loop-one
invariant-loop-one l = record {
  octets : l.octets ≡ sum_by (come_by l.time) (filter (is_into l.store) (take l.one-index l.self.observations));
  most : l.octets ≤ l.one-index * (MAX_RATE * MAX_TIME);
}
