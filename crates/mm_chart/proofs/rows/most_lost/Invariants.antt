use Rattle.std.proofs.Common.{◌≡◌, ◌*◌, ◌^◌, ◌≤◌}
use Rattle.std.specs.List.{range_with_len}
use Rattle.mm_base.specs.declared.limits.TheConstants.{MAX_STORES}
use Rattle.mm_chart.specs.Series.{largest, most_lost_by}
use Rattle.mm_chart.proofs.rows.most_lost.Given as goal

abbrev pub invariant-loop-store : goal.invariant-loop-store
invariant-loop-store l = record {
  lost : l.most ≡ largest (most_lost_by l.picture) (range_with_len 0 l.store);
  most : l.most ≤ MAX_STORES * 2 ^ 32;
}
