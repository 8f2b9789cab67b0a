use Rattle.std.proofs.Common.{◌≡◌, ◌*◌, ◌≤◌, ◌^◌}
use Rattle.std.specs.Prelude.{filter, sum_by}
use Rattle.std.specs.List.{range_with_len}
use Rattle.mm_links.specs.Rooms.{limit_of, is_in}
use Rattle.mm_links.proofs.widest.set_limit.Given as goal

abbrev pub invariant-loop-channel : goal.invariant-loop-channel
invariant-loop-channel l = record {
  sum : l.sum ≡ sum_by (limit_of l.links) (filter (is_in l.set) (range_with_len 0 l.channel));
  small : l.sum ≤ l.channel * 2 ^ 40;
}
