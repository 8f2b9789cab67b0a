use Rattle.std.proofs.Common.{◌≡◌, ◌+◌, ◌<◌, ◌≤◌, length, get_or, take, ap, ◌∙◌, arith}
use Rattle.std.specs.Prelude.{map}
use Rattle.std.specs.Int.{◌∣◌}
use Rattle.std.specs.List.{fold}
use Rattle.std.proofs.lemmas.List.{get_or_default, take_all}
use Rattle.std.proofs.lemmas.List.Elements.{All-head}
use Rattle.mm_mission.specs.declared.parts.Rate.{Rate}
use Rattle.mm_overlap.specs.Better.{channel_rate, lesser, no_rate, plus, IsSent}
use Rattle.mm_overlap.proofs.BetterLemmas.{common_of_channel, sent_together, sent_lesser, sum_more}
use Rattle.mm_overlap.proofs.rates.octets_of.Goals as goal

pub octets_in-link-requires-clause-common : goal.octets_in-link-requires-clause-common
octets_in-link-requires-clause-common c =
    let p = c.args.pass.now in
    All-head (λ (r : Rate). r.micros ∣ c.args.time) p.rate (map (channel_rate p) c.args.channels.now) c.requires.common

pub octets_in-requires-clause-common : goal.octets_in-requires-clause-common
octets_in-requires-clause-common c =
    rw c.channel_rate.ensures (common_of_channel (λ (r : Rate). r.micros ∣ c.args.time) c.args.pass.now
    c.args.channels.now c.loop-channel.channel-index _ (omega arith) c.requires.common)

pub loop-channel-preserved : goal.loop-channel-preserved
loop-channel-preserved c =
    let p = c.args.pass.now in
    let channels = c.args.channels.now in
    let i = c.loop-channel.channel-index in
    let r = c.channel_rate.result in
    let within : i < length channels = omega arith in
    let one : IsSent c.args.time (lesser r p.rate) c.min-octets.result = rw c.min-octets.ensures
    (sent_lesser c.args.time r p.rate c.octets_in.result c.octets_in-link.result c.octets_in.ensures.sent
    c.octets_in-link.ensures.sent c.requires.some) in
    let before = fold plus no_rate (map (λ n. lesser (channel_rate p n) p.rate) (take i channels)) in
    let all : IsSent c.args.time (plus before (lesser r p.rate)) (c.loop-channel.octets + c.min-octets.result) =
    sent_together c.args.time before (lesser r p.rate) c.loop-channel.octets c.min-octets.result
    c.loop-channel.invariant.sent one in
    let is : r ≡ channel_rate p (get_or channels i 0) =
    c.channel_rate.ensures ∙ ap (channel_rate p) (get_or_default channels i _ 0 within) in
    record {
      sent = rw (sum_more p channels i 0 within) (rw is at all);
      few = omega (arith, c.loop-channel.invariant.few, c.octets_in.ensures.few, c.requires.within, c.min-octets.ensures);
    }

pub returns : goal.returns
returns c =
    let p = c.args.pass.now in
    let channels = c.args.channels.now in
    let i = c.loop-channel.channel-index in
    let past : length channels ≤ i = omega arith in
    let all = fold plus no_rate (map (λ n. lesser (channel_rate p n) p.rate) channels) in
    let sent : IsSent c.args.time all c.loop-channel.octets =
    rw (take_all i channels past) at c.loop-channel.invariant.sent in
    rw c.min.ensures (sent_lesser c.args.time all p.rate c.loop-channel.octets c.octets_in-link.result sent
    c.octets_in-link.ensures.sent c.requires.some)
