use Rattle.mm_plan.specs.Table.{HasShape}
use Rattle.propose_plain.proofs.proposal.write_span.Given as goal

abbrev pub invariant-loop-store : goal.invariant-loop-store
invariant-loop-store l = HasShape l.problem l.plan
