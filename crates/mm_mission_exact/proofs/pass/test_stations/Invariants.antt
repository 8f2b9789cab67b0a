use Rattle.std.proofs.Common.{◌≡◌, drop}
use Rattle.mm_mission_exact.specs.Each.{each_in}
use Rattle.mm_mission_exact.specs.Passes.{new_station, stations_differ}
use Rattle.mm_mission_exact.proofs.pass.test_stations.Given as goal

abbrev pub invariant-loop-place : goal.invariant-loop-place
invariant-loop-place l =
    stations_differ l.stations ≡ each_in (new_station l.stations) l.place tt (drop l.place l.stations)
