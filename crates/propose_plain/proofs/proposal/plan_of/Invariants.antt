use Rattle.mm_plan.specs.Table.{HasShape}
use Rattle.propose_plain.proofs.proposal.plan_of.Given as goal

abbrev pub invariant-loop-span : goal.invariant-loop-span
invariant-loop-span l = HasShape l.problem l.plan
