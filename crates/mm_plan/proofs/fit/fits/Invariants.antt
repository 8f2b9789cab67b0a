use Rattle.mm_plan.specs.Table.{amount}
use Rattle.mm_plan.specs.Fit.{FitsBefore}
use Rattle.mm_plan.proofs.fit.fits.Given as goal

abbrev pub invariant-loop-step : goal.invariant-loop-step
invariant-loop-step l = FitsBefore l.problem (amount l.plan) l.step
