use Rattle.std.proofs.Common.{◌<◌}
use Rattle.mm_links.specs.Used.{AreQuiet}
use Rattle.mm_links.proofs.better.next_edge.Given as goal

abbrev pub invariant-loop-offer : goal.invariant-loop-offer
invariant-loop-offer l = record {
  after : l.time < l.next;
  quiet : AreQuiet l.offers l.offer-index l.time l.next;
}
