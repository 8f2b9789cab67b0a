use Rattle.std.proofs.Common.{◌≡◌, ◌++◌, map, length}
use Rattle.mm_base.specs.Id.{id_text}
use Rattle.mm_plan.specs.Printing.{spaced}
use Rattle.mm_plan.proofs.print.push_ids.Given as goal

abbrev pub invariant-loop-rest : goal.invariant-loop-rest
invariant-loop-rest l = l.text.items ++ spaced (map id_text l.rest) ≡ l.initial.text.items ++ spaced (map id_text l.ids)

abbrev pub decreases-loop-rest : goal.decreases-loop-rest
decreases-loop-rest l = length l.rest
