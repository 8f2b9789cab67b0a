use Rattle.std.proofs.Common.{◌≡◌, [], drop}
use Rattle.mm_mission_exact.specs.Each.{each_in}
use Rattle.mm_mission_exact.specs.Observations.{and_arriving}
use Rattle.mm_mission_exact.proofs.observation.all_arriving.Given as goal

abbrev pub invariant-loop-place : goal.invariant-loop-place
invariant-loop-place l =
    each_in (and_arriving l.stores l.mission) 0 [] l.rows ≡ each_in (and_arriving l.stores l.mission) l.place
    l.arriving.items (drop l.place l.rows)
