use Rattle.mm_memory.proofs.Words.{◌≡◌, take, opened, map}
use Rattle.mm_memory.proofs.setup.stores_of.Given as goal

abbrev pub invariant-loop-row : goal.invariant-loop-row
invariant-loop-row l = l.stores.items ≡ map opened (take l.row-index l.rows)
