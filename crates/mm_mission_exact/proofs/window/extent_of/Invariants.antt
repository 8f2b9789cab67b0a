use Rattle.std.proofs.Common.{◌≡◌, None, map, take}
use Rattle.std.specs.List.{fold}
use Rattle.mm_mission_exact.specs.Windows.{pass_window, observation_window, widened}
use Rattle.mm_mission_exact.proofs.window.extent_of.Given as goal

abbrev pub invariant-loop-one : goal.invariant-loop-one
invariant-loop-one l =
    l.extent
    ≡ fold widened (fold widened None (map pass_window l.passes))
    (map observation_window (take l.one-index l.observations))
