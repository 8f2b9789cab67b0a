use Rattle.mm_desk.proofs.Words.{◌≡◌, ◌+◌, ◌≤◌, vec_capacity}
use Rattle.mm_desk.specs.Passes.{AreUndrawn}
use Rattle.mm_desk.proofs.pass_book.PassBook.open.Given as goal

abbrev pub invariant-loop : goal.invariant-loop
invariant-loop g l = record {
  seats : AreUndrawn l.counter l.list.items;
  room : l.seats ≤ vec_capacity l.list;
  parts : l.all.parts + l.counter ≡ l.seats;
  none : l.all.amount ≡ 0;
  total : l.book.total ≡ 0;
}
