use Rattle.std.proofs.Common.{◌≡◌, ◌++◌, take}
use Rattle.mm_mission.specs.Edges.{pass_ends}
use Rattle.mm_mission.proofs.times.push_passes.Given as goal

abbrev pub invariant-loop-pass : goal.invariant-loop-pass
invariant-loop-pass l = l.times.items ≡ l.fn.times.items ++ pass_ends (take l.pass-index l.passes)
