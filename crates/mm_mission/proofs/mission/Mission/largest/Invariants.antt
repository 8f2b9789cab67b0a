use Rattle.std.proofs.Common.{◌≡◌, ◌*◌, ◌≤◌, max, take}
use Rattle.std.specs.Prelude.{filter}
use Rattle.std.specs.List.{fold}
use Rattle.mm_mission.specs.declared.limits.TheConstants.{MAX_PACKET, MAX_UNIT}
use Rattle.mm_mission.specs.Flows.{unit_octets, is_on}
use Rattle.mm_mission.proofs.mission.Mission.largest.Given as goal

abbrev pub invariant-loop-store : goal.invariant-loop-store
invariant-loop-store l = record {
  octets : l.octets
      ≡ fold (λ n s. max n (unit_octets s)) 0 (filter (is_on l.channel) (take l.store-index l.self.stores));
  most : l.octets ≤ MAX_PACKET * MAX_UNIT;
}
