use Rattle.std.proofs.Common.{◌*◌, ◌≤◌}
use Rattle.mm_flow.specs.declared.limits.TheConstants.{MAX_CAPACITY}
use Rattle.mm_exhaustive.proofs.cuts.cut_capacity.Given as goal

abbrev pub invariant-loop-number : goal.invariant-loop-number
invariant-loop-number l = l.total ≤ l.number * MAX_CAPACITY
