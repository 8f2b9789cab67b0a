use Rattle.std.proofs.Common.{◌≡◌, ◌*◌, ◌^◌, ◌≤◌}
use Rattle.std.specs.List.{sum_by, range_with_len}
use Rattle.std.specs.Prelude.{filter}
use Rattle.mm_problem.specs.Dumping.{is_of}
use Rattle.mm_chart.specs.Series.{sent}
use Rattle.mm_chart.proofs.picture.Picture.sent_on.Given as goal

abbrev pub invariant-loop-store : goal.invariant-loop-store
invariant-loop-store l = record {
  sent : l.sent ≡ sum_by (sent l.self l.step) (filter (is_of l.self.problem l.channel) (range_with_len 0 l.store));
  most : l.sent ≤ l.store * 2 ^ 32;
}
