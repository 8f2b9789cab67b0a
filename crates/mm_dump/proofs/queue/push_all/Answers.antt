use Rattle.mm_dump.proofs.Moves.{pushes, learns}
use Rattle.mm_dump.proofs.queue.push_all.Goals as goal

pub push_as-requires-clause-rule : goal.push_as-requires-clause-rule
push_as-requires-clause-rule g c = (
  pushes _ _ _ _ c.loop-number.invariant.all c.loop-number.invariant.number
      c.loop-number.invariant.none,
  learns _ _,
)
