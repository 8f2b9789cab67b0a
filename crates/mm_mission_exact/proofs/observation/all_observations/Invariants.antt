use Rattle.std.proofs.Common.{◌≡◌, drop}
use Rattle.mm_mission_exact.specs.Each.{each_in}
use Rattle.mm_mission_exact.specs.Observations.{and_observation, all_observations}
use Rattle.mm_mission_exact.proofs.observation.all_observations.Given as goal

abbrev pub invariant-loop-one : goal.invariant-loop-one
invariant-loop-one l =
    all_observations l.stores l.arriving
    ≡ each_in (and_observation l.stores) l.one-index l.observations.items (drop l.one-index l.arriving)
