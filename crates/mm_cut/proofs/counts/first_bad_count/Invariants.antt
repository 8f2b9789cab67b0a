use Rattle.std.proofs.Common.{take}
use Rattle.mm_cut.specs.Counts.{AreCounted}
use Rattle.mm_cut.proofs.counts.first_bad_count.Given as goal

abbrev pub invariant-loop-place : goal.invariant-loop-place
invariant-loop-place l = AreCounted l.problem l.stretches (take l.place l.counts)
