use Rattle.std.proofs.Common.{◌≡◌, ◌++◌, map, length}
use Rattle.mm_plan.specs.Sheet.{count_line}
use Rattle.mm_plan.specs.Printing.{all_ended}
use Rattle.mm_plan.proofs.print.push_counts.Given as goal

abbrev pub invariant-loop-rest : goal.invariant-loop-rest
invariant-loop-rest l = l.text.items ++ all_ended (map count_line l.rest) ≡ l.initial.text.items ++ all_ended (map count_line l.steps)

abbrev pub decreases-loop-rest : goal.decreases-loop-rest
decreases-loop-rest l = length l.rest
