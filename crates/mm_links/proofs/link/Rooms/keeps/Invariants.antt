use Rattle.std.proofs.Common.{ℕ, ◌<◌, ◌≤◌, get_or}
use Rattle.mm_links.proofs.link.Rooms.keeps.Given as goal

abbrev pub invariant-loop-channel : goal.invariant-loop-channel
invariant-loop-channel l = (c : ℕ) → c < l.channel → get_or l.amounts c 0 ≤ get_or l.self.limits c 0
