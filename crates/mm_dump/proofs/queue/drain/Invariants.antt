use Rattle.mm_dump.proofs.Words.{◌-◌, length, view, HasAllParts}
use Rattle.mm_dump.proofs.queue.drain.Given as goal

abbrev pub invariant-loop : goal.invariant-loop
invariant-loop g l = HasAllParts l.queue l.pass

abbrev pub decreases-loop : goal.decreases-loop
decreases-loop g l = (view l.pass).pushed - length (view l.pass).taken
