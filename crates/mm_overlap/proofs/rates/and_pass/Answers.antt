use Rattle.std.proofs.Common.{◌≡◌, ◌+◌, ◌<◌, ◌∷◌, [], length, get_or, ap, ◌∙◌, arith, rules}
use Rattle.std.specs.Prelude.{Some, None}
use Rattle.std.proofs.lemmas.List.{get_or_default}
use Rattle.mm_overlap.specs.Better.{channel_rate, IsNextTime}
use Rattle.mm_overlap.proofs.BetterLemmas.{channel_next, channel_none, channels_done}
use Rattle.mm_overlap.proofs.rates.and_pass.Goals as goal

pub returns-in_err-next-clause-next : goal.returns-in_err-next-clause-next
returns-in_err-next-clause-next c =
    let none : c.from_residual.result ≡ None = search rules in
    rw none (channel_none c.args.pass.now c.args.channels.now c.args.time 0 c.in_err-next.ensures.next)

pub returns-in_err-next-2-clause-next : goal.returns-in_err-next-2-clause-next
returns-in_err-next-2-clause-next c =
    let p = c.args.pass.now in
    let channels = c.args.channels.now in
    let i = c.loop-channel.channel-index in
    let within : i < length channels = omega arith in
    let is : c.channel_rate.result ≡ channel_rate p (get_or channels i 0) =
    c.channel_rate.ensures ∙ ap (channel_rate p) (get_or_default channels i _ 0 within) in
    let next : IsNextTime c.loop-channel.next (channel_rate p (get_or channels i 0) ∷ []) None =
    rw is at c.in_err-next-2.ensures.next in
    let none : c.from_residual-in_err-next-2.result ≡ None = search rules in
    rw none (channel_none p channels c.args.time (i + 1) (channel_next p channels c.args.time i 0 c.loop-channel.next
    None within c.loop-channel.invariant.next next))

pub loop-channel-preserved : goal.loop-channel-preserved
loop-channel-preserved c =
    let p = c.args.pass.now in
    let channels = c.args.channels.now in
    let i = c.loop-channel.channel-index in
    let within : i < length channels = omega arith in
    let is : c.channel_rate.result ≡ channel_rate p (get_or channels i 0) =
    c.channel_rate.ensures ∙ ap (channel_rate p) (get_or_default channels i _ 0 within) in
    let next : IsNextTime c.loop-channel.next (channel_rate p (get_or channels i 0) ∷ []) (Some c.in_ok-next-2.next) =
    rw is at c.in_ok-next-2.ensures.next in
    record {
      next = channel_next p channels c.args.time i 0 c.loop-channel.next (Some c.in_ok-next-2.next) within
          c.loop-channel.invariant.next next;
      some = c.in_ok-next-2.ensures.some;
    }

pub returns-clause-next : goal.returns-clause-next
returns-clause-next c =
    channels_done c.args.pass.now c.args.channels.now c.args.time c.loop-channel.channel-index
    (Some c.loop-channel.next) (omega arith) c.loop-channel.invariant.next
