use Rattle.std.proofs.Common.{◌≡◌, ◌*◌, ◌≤◌, take}
use Rattle.std.specs.Prelude.{sum_by}
use Rattle.mm_links.specs.Rooms.{limit_at}
use Rattle.mm_links.proofs.widest.limit.Given as goal

abbrev pub invariant-loop-link : goal.invariant-loop-link
invariant-loop-link l = record {
  sum : l.sum ≡ sum_by (λ k. limit_at k l.channel) (take l.link-index l.links);
  small : l.sum ≤ l.link-index * 4294967295;
}
