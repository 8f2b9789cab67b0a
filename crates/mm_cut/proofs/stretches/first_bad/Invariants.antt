use Rattle.std.proofs.Common.{take}
use Rattle.mm_cut.specs.Stretches.{AreStretches}
use Rattle.mm_cut.proofs.stretches.first_bad.Given as goal

abbrev pub invariant-loop-place : goal.invariant-loop-place
invariant-loop-place l = AreStretches l.problem (take l.place l.stretches)
