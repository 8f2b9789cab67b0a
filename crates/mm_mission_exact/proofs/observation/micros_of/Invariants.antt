use Rattle.std.proofs.Common.{◌≡◌, drop}
use Rattle.mm_mission_exact.specs.Each.{each_in}
use Rattle.mm_mission_exact.specs.Observations.{and_common, micros_of}
use Rattle.mm_mission_exact.proofs.observation.micros_of.Given as goal

abbrev pub invariant-loop-one : goal.invariant-loop-one
invariant-loop-one l =
    micros_of l.arriving l.store ≡ each_in (and_common l.store) l.one-index l.micros (drop l.one-index l.arriving)
