use Rattle.std.proofs.Common.{ℕ, ◌<◌}
use Rattle.mm_plan.specs.Table.{amount}
use Rattle.mm_plan.specs.Fit.{FitsLimit}
use Rattle.mm_plan.proofs.fit.fits_limits.Given as goal

-- the channels so far fit
abbrev pub invariant-loop-channel : goal.invariant-loop-channel
invariant-loop-channel l = (k : ℕ) → k < l.channel → FitsLimit l.problem (amount l.plan) l.step k
