use Rattle.mm_desk.proofs.Words.{AreNew}
use Rattle.mm_desk.proofs.seat.new_seats.Given as goal

abbrev pub invariant-loop-number : goal.invariant-loop-number
invariant-loop-number g l = AreNew l.place l.number l.list.items
