use Rattle.std.proofs.Common.{◌≡◌, true, take}
use Rattle.std.specs.Prelude.{nat_le}
use Rattle.std.specs.List.{list_all}
use Rattle.mm_base.specs.declared.limits.TheConstants.{MAX_BLOCKS}
use Rattle.mm_mission.proofs.table.amounts.Given as goal

abbrev pub invariant-loop-cell : goal.invariant-loop-cell
invariant-loop-cell l = record {
  same : l.amounts.items ≡ take l.cell-index l.cells;
  within : list_all (λ n. nat_le n MAX_BLOCKS) (take l.cell-index l.cells) ≡ true;
}
