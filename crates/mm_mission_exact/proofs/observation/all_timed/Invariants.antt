use Rattle.std.proofs.Common.{◌≡◌, [], drop}
use Rattle.mm_mission_exact.specs.Each.{each_in}
use Rattle.mm_mission_exact.specs.Observations.{and_timed}
use Rattle.mm_mission_exact.proofs.observation.all_timed.Given as goal

abbrev pub invariant-loop-place : goal.invariant-loop-place
invariant-loop-place l =
    each_in (and_timed l.arriving) 0 [] l.stores ≡ each_in (and_timed l.arriving) l.place l.timed.items (drop
    l.place l.stores)
