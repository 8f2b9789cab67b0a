use Rattle.std.proofs.Common.{◌≡◌, ℕ, ◌<◌, length}
use Rattle.std.specs.Prelude.{slice_index_or}
use Rattle.mm_sensitivity.specs.Charts.{AreLosses, IsLimitWorth}
use Rattle.mm_sensitivity.proofs.charts.limit_worths.Given as goal

abbrev pub invariant-loop-channel : goal.invariant-loop-channel
invariant-loop-channel l = record {
  count : length l.worths.items ≡ l.channel;
  each : (c : ℕ) → c < l.channel → IsLimitWorth l.base.problem.now c (slice_index_or l.worths.items c 0);
  most : AreLosses l.worths.items;
}
