use Rattle.std.proofs.Common.{◌≡◌, ◌++◌, ◌<◌, length, decimal}
use Rattle.mm_plan.proofs.row.leading_number.Given as goal

abbrev pub invariant-loop-rest : goal.invariant-loop-rest
invariant-loop-rest l = record {
  text : l.text ≡ decimal l.number ++ l.rest;
  some : 0 < l.number;
}

abbrev pub decreases-loop-rest : goal.decreases-loop-rest
decreases-loop-rest l = length l.rest
