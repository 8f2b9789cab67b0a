use Rattle.std.proofs.Common.{take}
use Rattle.mm_plan.specs.Table.{amount}
use Rattle.mm_cut.specs.Firsts.{ShowFirsts}
use Rattle.mm_cut.proofs.firsts.first_not_shown.Given as goal

abbrev pub invariant-loop-place : goal.invariant-loop-place
invariant-loop-place l = ShowFirsts l.problem (amount l.plan) (take l.place l.firsts)
