use Rattle.mm_plan.specs.Table.{HasShape}
use Rattle.mm_sensitivity.proofs.lowering.lowered.Given as goal

abbrev pub invariant-loop-step : goal.invariant-loop-step
invariant-loop-step l = HasShape l.problem l.lowered
