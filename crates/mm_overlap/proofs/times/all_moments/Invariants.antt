use Rattle.std.proofs.Common.{◌≡◌, ℕ, ◌<◌, take, get_or}
use Rattle.std.specs.List.{flat_map}
use Rattle.mm_mission.specs.Edges.{moments}
use Rattle.mm_mission.specs.Mission.{MissionRows, IsMission}
use Rattle.mm_overlap.proofs.times.all_moments.Given as goal

abbrev pub invariant-loop-mission : goal.invariant-loop-mission
invariant-loop-mission l = record {
  moments : l.times.items ≡ flat_map moments (take l.mission-index l.missions);
  missions : (k : ℕ) (d : MissionRows) → k < l.mission-index → IsMission (get_or l.missions k d);
}
