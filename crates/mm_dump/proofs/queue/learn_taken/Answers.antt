use Rattle.mm_dump.proofs.Moves.{learns}
use Rattle.mm_dump.proofs.queue.learn_taken.Goals as goal

pub learn_as-requires-clause-rule : goal.learn_as-requires-clause-rule
learn_as-requires-clause-rule c = learns _ _
