use Rattle.std.proofs.Common.{◌≡◌, ◌+◌, ◌++◌, suc, length}
use Rattle.mm_plan.specs.Sheet.{first_lines}
use Rattle.mm_plan.specs.Printing.{all_ended}
use Rattle.mm_plan.proofs.print.push_each.Given as goal

abbrev pub invariant-loop-rest : goal.invariant-loop-rest
invariant-loop-rest l = record {
  place : l.number + length l.rest ≡ length l.firsts;
  text : l.text.items ++ all_ended (first_lines (suc l.number) l.rest) ≡ l.initial.text.items ++ all_ended (first_lines 1 l.firsts);
}

abbrev pub decreases-loop-rest : goal.decreases-loop-rest
decreases-loop-rest l = length l.rest
