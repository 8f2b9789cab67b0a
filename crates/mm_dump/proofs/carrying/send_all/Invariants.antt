use Rattle.mm_dump.proofs.Words.{◌≡◌, order_store, progress}
use Rattle.mm_dump.proofs.OneOrder.{SentSoFar}
use Rattle.mm_dump.proofs.carrying.send_all.Given as goal

abbrev pub invariant-loop : goal.invariant-loop
invariant-loop g l = record {
  of : l.port.of ≡ l.initial.port.of;
  so_far : SentSoFar (order_store l.context.place l.context.id.now) l.counter l.last
      (progress g.L.Link.sent g.L.Link.failed l.initial.port l.initial.link l.initial.spent)
      (progress g.L.Link.sent g.L.Link.failed l.port l.link l.spent);
}
