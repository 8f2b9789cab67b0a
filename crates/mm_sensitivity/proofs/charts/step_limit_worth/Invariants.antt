use Rattle.std.proofs.Common.{◌≡◌, ℕ, ◌<◌, slice_index}
use Rattle.mm_sensitivity.proofs.charts.step_limit_worth.Given as goal

-- no column so far is the channel's
abbrev pub invariant-loop-column : goal.invariant-loop-column
invariant-loop-column l = (k : ℕ) → k < l.column → ¬ (slice_index l.limited k ≡ l.channel)
