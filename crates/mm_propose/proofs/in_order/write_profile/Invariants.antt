use Rattle.mm_plan.specs.Table.{HasShape}
use Rattle.mm_propose.proofs.in_order.write_profile.Given as goal

abbrev pub invariant-loop-at : goal.invariant-loop-at
invariant-loop-at l = HasShape l.problem l.plan
