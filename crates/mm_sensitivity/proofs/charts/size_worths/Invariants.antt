use Rattle.std.proofs.Common.{◌≡◌, ℕ, ◌<◌, length}
use Rattle.std.specs.Prelude.{slice_index_or}
use Rattle.mm_base.specs.declared.limits.TheConstants.{MAX_BLOCKS}
use Rattle.mm_sensitivity.specs.declared.item.Item.TheVariants.{Size}
use Rattle.mm_sensitivity.specs.Items.{with_number}
use Rattle.mm_sensitivity.specs.Worth.{IsSaved}
use Rattle.mm_sensitivity.proofs.charts.size_worths.Given as goal

abbrev pub invariant-loop-store : goal.invariant-loop-store
invariant-loop-store l = record {
  count : length l.worths.items ≡ l.store;
  each : (s : ℕ) → s < l.store
      → IsSaved l.base.problem.now (with_number l.base.problem.now (Size s) MAX_BLOCKS)
      (slice_index_or l.worths.items s 0);
}
