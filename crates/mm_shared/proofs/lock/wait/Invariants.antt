use Rattle.mm_shared.proofs.Words.{◌≡◌}
use Rattle.mm_shared.proofs.lock.wait.Given as goal

abbrev pub invariant-loop : goal.invariant-loop
invariant-loop g l = (l.seat.table_id ≡ l.initial.seat.table_id) × (l.seat.me ≡ l.initial.seat.me)
