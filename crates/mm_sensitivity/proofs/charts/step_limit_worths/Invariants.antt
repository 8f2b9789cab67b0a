use Rattle.std.proofs.Common.{◌≡◌, ℕ, ◌+◌, ◌/◌, ◌%◌, ◌<◌, length}
use Rattle.std.specs.Prelude.{slice_index_or}
use Rattle.mm_base.specs.declared.limits.TheConstants.{CHANNELS}
use Rattle.mm_sensitivity.specs.Charts.{AreLosses, IsStepLimitWorth}
use Rattle.mm_sensitivity.proofs.charts.step_limit_worths.Given as goal

abbrev pub invariant-loop-place : goal.invariant-loop-place
invariant-loop-place l = record {
  count : length l.worths.items ≡ l.place;
  each : (k : ℕ) → k < l.place
      → IsStepLimitWorth l.base.problem.now (k % CHANNELS) (k / CHANNELS + 1) (slice_index_or l.worths.items k 0);
  most : AreLosses l.worths.items;
}
