use Rattle.std.proofs.Common.{◌≡◌, ◌*◌, ◌≤◌, ◌^◌}
use Rattle.std.specs.Prelude.{filter, sum_by}
use Rattle.std.specs.List.{range_with_len}
use Rattle.mm_links.specs.Rooms.{limit_at, is_in}
use Rattle.mm_links.proofs.link.Link.room.Given as goal

abbrev pub invariant-loop-channel : goal.invariant-loop-channel
invariant-loop-channel l = record {
  sum : l.sum ≡ sum_by (limit_at l.self) (filter (is_in l.set) (range_with_len 0 l.channel));
  small : l.sum ≤ l.channel * 2 ^ 32;
}
