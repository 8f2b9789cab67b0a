use Rattle.mm_desk.proofs.Words.{◌≡◌, ◌+◌, vec_len, sum}
use Rattle.mm_desk.proofs.pass_book.whole.Given as goal

abbrev pub invariant-loop-share : goal.invariant-loop-share
invariant-loop-share g l = record {
  parts : l.all.parts + vec_len l.seats ≡ vec_len l.fn.seats;
  amount : l.all.amount + sum l.seats.items ≡ sum l.fn.seats.items;
}

abbrev pub decreases-loop-share : goal.decreases-loop-share
decreases-loop-share g l = vec_len l.seats
