use Rattle.mm_desk.proofs.Words.{below_more, ℕ, ◌+◌, List, [], ◌∷◌, ◌++◌, ◌∙◌, arith, length-append, get_or_append_left}
use Rattle.mm_desk.proofs.Words.{get_or_push, SeatView, AreNew, new_seat}
use Rattle.mm_desk.proofs.seat.new_seats.Goals as goal

-- one seat more
new_more : (place seated : ℕ) (seats : List SeatView) → AreNew place seated seats
    → AreNew place (seated + 1) (seats ++ new_seat place seated ∷ [])
new_more place seated seats new = record {
  count = omega (arith, length-append seats (new_seat place seated ∷ []), new.count);
  each = below_more _ seated (λ i before. get_or_append_left seats _ (new_seat 0 0) i (omega (arith, new.count))
      ∙ new.each i before)
      (get_or_push seats _ (new_seat 0 0) seated new.count);
}

pub loop-number-preserved : goal.loop-number-preserved
loop-number-preserved g c =
    rw (c.in_ok-push.ensures.items, c.new.ensures.seat)
    (new_more c.args.place c.loop-number.number c.loop-number.list.items c.loop-number.invariant)
