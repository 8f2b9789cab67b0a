use Rattle.std.proofs.Common.{◌≡◌, ◌*◌, ◌≤◌, ◌^◌}
use Rattle.std.specs.List.{range_with_len, sum_by}
use Rattle.mm_links.specs.Shared.{amount}
use Rattle.mm_links.proofs.link.total.Given as goal

abbrev pub invariant-loop-channel : goal.invariant-loop-channel
invariant-loop-channel l = record {
  sum : l.sum ≡ sum_by (amount l.amounts) (range_with_len 0 l.channel);
  small : l.sum ≤ l.channel * 2 ^ 64;
}
