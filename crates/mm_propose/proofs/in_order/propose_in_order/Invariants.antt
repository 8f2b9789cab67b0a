use Rattle.mm_plan.specs.Table.{HasShape}
use Rattle.mm_propose.proofs.in_order.propose_in_order.Given as goal

abbrev pub invariant-loop-store : goal.invariant-loop-store
invariant-loop-store l = HasShape l.problem l.plan
