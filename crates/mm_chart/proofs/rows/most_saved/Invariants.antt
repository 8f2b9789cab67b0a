use Rattle.std.proofs.Common.{◌≡◌, ◌*◌, ◌^◌, ◌≤◌}
use Rattle.std.specs.List.{range_with_len}
use Rattle.mm_base.specs.declared.limits.TheConstants.{MAX_STORES}
use Rattle.mm_chart.specs.Series.{largest, most_raised_by}
use Rattle.mm_chart.proofs.rows.most_saved.Given as goal

abbrev pub invariant-loop-channel : goal.invariant-loop-channel
invariant-loop-channel l = record {
  saved : l.most ≡ largest (most_raised_by l.picture) (range_with_len 0 l.channel);
  most : l.most ≤ MAX_STORES * 2 ^ 32;
}
