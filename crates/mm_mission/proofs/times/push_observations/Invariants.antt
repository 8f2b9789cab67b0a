use Rattle.std.proofs.Common.{◌≡◌, ◌++◌, take}
use Rattle.std.specs.Prelude.{filter}
use Rattle.mm_mission.specs.Edges.{is_inside, observation_ends}
use Rattle.mm_mission.proofs.times.push_observations.Given as goal

abbrev pub invariant-loop-one : goal.invariant-loop-one
invariant-loop-one l =
    l.times.items ≡ l.fn.times.items ++ filter (is_inside l.passes) (observation_ends (take l.one-index l.observations))
