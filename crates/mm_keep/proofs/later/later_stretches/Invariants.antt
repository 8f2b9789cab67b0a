use Rattle.std.proofs.Common.{◌≡◌, map, take}
use Rattle.mm_keep.specs.Keeps.{later_stretch}
use Rattle.mm_keep.proofs.later.later_stretches.Given as goal

abbrev pub invariant-loop-stretch : goal.invariant-loop-stretch
invariant-loop-stretch l = l.later.items ≡ map (later_stretch l.steps l.first) (take l.stretch-index l.stretches)
