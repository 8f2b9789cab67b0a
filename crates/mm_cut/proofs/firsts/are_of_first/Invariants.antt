use Rattle.std.proofs.Common.{◌<◌, take, All}
use Rattle.mm_plan.specs.declared.stretch.Stretch.{Stretch}
use Rattle.mm_cut.specs.Stretches.{store_of}
use Rattle.mm_cut.proofs.firsts.are_of_first.Given as goal

abbrev pub invariant-loop-stretch : goal.invariant-loop-stretch
invariant-loop-stretch l = All (λ (d : Stretch). store_of l.problem d < l.stores) (take l.stretch-index l.stretches)
