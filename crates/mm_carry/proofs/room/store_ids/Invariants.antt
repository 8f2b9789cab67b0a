use Rattle.mm_carry.proofs.Words.{StoreRow, ◌≡◌, map, take}
use Rattle.mm_carry.proofs.room.store_ids.Given as goal

abbrev pub invariant-loop-store : goal.invariant-loop-store
invariant-loop-store l = record {
  ids : l.ids.items ≡ map (λ (row : StoreRow). row.id) (take l.store l.problem.rows);
}
