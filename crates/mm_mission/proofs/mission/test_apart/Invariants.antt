use Rattle.std.proofs.Common.{◌≡◌, drop}
use Rattle.mm_mission.specs.Mission.{follow}
use Rattle.mm_mission.proofs.mission.test_apart.Given as goal

abbrev pub invariant-loop-row : goal.invariant-loop-row
invariant-loop-row l = follow l.row l.free (drop l.row l.passes) ≡ follow 0 0 l.passes
