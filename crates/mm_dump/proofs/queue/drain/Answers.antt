use Rattle.mm_dump.proofs.Words.{arith}
use Rattle.mm_dump.proofs.Moves.{takes, learns}
use Rattle.mm_dump.proofs.queue.drain.Goals as goal

pub pop_as-requires-clause-rule : goal.pop_as-requires-clause-rule
pop_as-requires-clause-rule g c = (takes _ _ (omega (arith, c.loop.invariant.all)), learns _ _)
