use Rattle.mm_dump.proofs.Moves.{takes, learns}
use Rattle.mm_dump.proofs.queue.take_next.Goals as goal

pub pop_as-requires-clause-rule : goal.pop_as-requires-clause-rule
pop_as-requires-clause-rule g c = (takes _ _ c.loop.invariant.part, learns _ _)
