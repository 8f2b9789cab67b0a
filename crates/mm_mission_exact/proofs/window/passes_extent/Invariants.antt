use Rattle.std.proofs.Common.{◌≡◌, None, map, take}
use Rattle.std.specs.List.{fold}
use Rattle.mm_mission_exact.specs.Windows.{pass_window, widened}
use Rattle.mm_mission_exact.proofs.window.passes_extent.Given as goal

abbrev pub invariant-loop-pass : goal.invariant-loop-pass
invariant-loop-pass l = l.extent ≡ fold widened None (map pass_window (take l.pass-index l.passes))
