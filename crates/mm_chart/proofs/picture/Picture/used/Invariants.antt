use Rattle.std.proofs.Common.{◌≡◌, ◌*◌, ◌^◌, ◌≤◌}
use Rattle.std.specs.List.{sum_by, range_with_len}
use Rattle.mm_chart.specs.Series.{sent}
use Rattle.mm_chart.proofs.picture.Picture.used.Given as goal

abbrev pub invariant-loop-store : goal.invariant-loop-store
invariant-loop-store l = record {
  used : l.used ≡ sum_by (sent l.self l.step) (range_with_len 0 l.store);
  most : l.used ≤ l.store * 2 ^ 32;
}
