use Rattle.std.proofs.Common.{◌≡◌, ◌++◌, ◌≤◌, All, map, take, decimal}
use Rattle.mm_base.specs.declared.limits.TheConstants.{MAX_BLOCKS}
use Rattle.mm_plan.specs.Printing.{spaced}
use Rattle.mm_plan.proofs.row.read_row.Given as goal

abbrev pub invariant-loop-place : goal.invariant-loop-place
invariant-loop-place l = record {
  text : l.text ≡ spaced (map decimal (take l.place l.amounts)) ++ l.rest;
  most : All (λ n. n ≤ MAX_BLOCKS) (take l.place l.amounts);
}
