use Rattle.std.proofs.Common.{◌≤◌, ◌∷◌, take}
use Rattle.std.specs.Prelude.{map, Some}
use Rattle.mm_overlap.specs.Better.{channel_rate, IsNextTime}
use Rattle.mm_overlap.proofs.rates.and_pass.Given as goal

abbrev pub invariant-loop-channel : goal.invariant-loop-channel
invariant-loop-channel l = record {
  next : IsNextTime l.time (l.pass.rate ∷ map (channel_rate l.pass) (take l.channel-index l.channels)) (Some l.next);
  some : 1 ≤ l.next;
}
