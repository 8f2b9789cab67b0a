use Rattle.std.proofs.Common.{◌≡◌, false, take}
use Rattle.std.specs.List.{list_any}
use Rattle.mm_mission_exact.specs.Passes.{clash}
use Rattle.mm_mission_exact.proofs.pass.has_clash.Given as goal

abbrev pub invariant-loop-other : goal.invariant-loop-other
invariant-loop-other l = list_any (clash l.rows l.mission l.pass) (take l.other-index l.others) ≡ false
