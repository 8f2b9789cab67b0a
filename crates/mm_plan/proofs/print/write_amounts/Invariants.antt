use Rattle.std.proofs.Common.{◌≡◌, ◌+◌, ◌*◌, ◌≤◌, ◌++◌, length, map, drop, decimal}
use Rattle.mm_plan.specs.Printing.{spaced}
use Rattle.mm_plan.proofs.print.write_amounts.Given as goal

abbrev pub invariant-loop-left : goal.invariant-loop-left
invariant-loop-left l = record {
  written : drop l.first l.octets ≡ spaced (map decimal (drop l.left l.amounts)) ++ drop l.end l.initial.octets;
  left : l.left ≤ length l.amounts;
  least : l.end + 11 * l.left ≤ l.first + 11 * length l.amounts;
  most : l.first ≤ l.end;
}

abbrev pub decreases-loop-left : goal.decreases-loop-left
decreases-loop-left l = l.left
