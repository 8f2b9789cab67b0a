use Rattle.std.proofs.Common.{◌≡◌, ◌*◌, ◌^◌, ◌≤◌}
use Rattle.std.specs.List.{sum_by, range_with_len}
use Rattle.mm_chart.specs.Rows.{coming_to}
use Rattle.mm_chart.proofs.rows.all_coming.Given as goal

abbrev pub invariant-loop-store : goal.invariant-loop-store
invariant-loop-store l = record {
  coming : l.coming ≡ sum_by (coming_to l.picture) (range_with_len 0 l.store);
  most : l.coming ≤ l.store * 2 ^ 45;
}
