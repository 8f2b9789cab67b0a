use Rattle.std.proofs.Common.{◌≡◌, ◌<◌, ℕ, get_or, length}
use Rattle.mm_base.specs.declared.limits.TheConstants.{CHANNELS}
use Rattle.mm_links.specs.Rooms.{limit_of}
use Rattle.mm_links.proofs.widest.rooms.Given as goal

abbrev pub invariant-loop-channel : goal.invariant-loop-channel
invariant-loop-channel l = record {
  size : length l.limits ≡ CHANNELS;
  done : (c : ℕ) → c < l.channel → get_or l.limits c 0 ≡ limit_of l.links c;
}
