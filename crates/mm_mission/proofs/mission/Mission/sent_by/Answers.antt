use Rattle.std.proofs.Common.{◌≡◌, Some, sym, ◌∙◌}
use Rattle.mm_mission.specs.Flows.{elapsed, octets_on, pace, whole_units, own_rate, link_pace}
use Rattle.mm_mission.proofs.Paces.{own_units}
use Rattle.mm_mission.proofs.mission.Mission.sent_by.Goals as goal

pub returns-in-Some-clause-units : goal.returns-in-Some-clause-units
returns-in-Some-clause-units c =
    let m = c.args.self.now in
    let p = c.args.pass.now in
    let r = c.in-Some.own in
    let time = elapsed p.span c.args.time in
    let has : own_rate c.args.channel p ≡ Some r = sym c.own_rate.ensures ∙ c.in-Some.is in
    let own : c.whole_units.result ≡ whole_units (pace (octets_on m c.args.channel) r) time =
    rw (c.octets_on-in-Some.ensures.octets, c.elapsed-time.ensures) at c.whole_units.ensures.units in
    let link : c.whole_units-units.result ≡ whole_units (link_pace m p) time =
    rw (c.octets_on.ensures.octets, c.elapsed-time.ensures) at c.whole_units-units.ensures.units in
    c.min.ensures ∙ rw (own, link) (sym (own_units m c.args.channel p c.requires.pass r time has))
