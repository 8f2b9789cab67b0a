use Rattle.std.proofs.Common.{◌*◌, ◌^◌, ◌≤◌, take}
use Rattle.std.specs.Prelude.{map}
use Rattle.std.specs.List.{fold}
use Rattle.mm_overlap.specs.Better.{channel_rate, lesser, no_rate, plus, IsSent}
use Rattle.mm_overlap.proofs.rates.octets_of.Given as goal

abbrev pub invariant-loop-channel : goal.invariant-loop-channel
invariant-loop-channel l = record {
  sent : IsSent l.time (fold plus no_rate
      (map (λ c. lesser (channel_rate l.pass c) l.pass.rate) (take l.channel-index l.channels))) l.octets;
  few : l.octets ≤ l.channel-index * 2 ^ 114;
}
