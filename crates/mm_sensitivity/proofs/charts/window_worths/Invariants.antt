use Rattle.std.proofs.Common.{◌≡◌, ℕ, ◌-◌, ◌<◌, ◌≤◌, length}
use Rattle.std.specs.Prelude.{slice_index_or}
use Rattle.mm_base.specs.declared.limits.TheConstants.{MAX_BLOCKS}
use Rattle.mm_problem.specs.Changed.{with_window}
use Rattle.mm_sensitivity.specs.Worth.{IsSaved}
use Rattle.mm_sensitivity.proofs.charts.window_worths.Given as goal

abbrev pub invariant-loop-step : goal.invariant-loop-step
invariant-loop-step l = record {
  count : length l.worths.items ≡ l.step - 1;
  each : (t : ℕ) → 1 ≤ t → t < l.step
      → IsSaved l.base.problem.now (with_window l.base.problem.now t MAX_BLOCKS)
      (slice_index_or l.worths.items (t - 1) 0);
}
