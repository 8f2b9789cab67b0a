use Rattle.std.proofs.Common.{◌≡◌, ◌<◌, ◌∙◌, ap, ℕ, arith}
use Rattle.std.proofs.lemmas.Result.{on_ok_weaker}
use Rattle.mm_mission.specs.declared.dumps.Dump.{Dump}
use Rattle.mm_mission.specs.Mission.{MissionRows}
use Rattle.mm_mission.specs.Packets.{sent_in}
use Rattle.mm_mission.proofs.Timed.{sent_added}
use Rattle.mm_mission.proofs.dumps.push_step.Goals as goal

pub returns : goal.returns
returns c =
    let m = c.args.mission.now in
    let x : ℕ → ℕ → ℕ = sent_in c.args.edges.now c.args.steps.now in
    let next_is = c.step_dump-next.ensures in
    let passes : c.deref.result.now ≡ m.passes = c.deref.ensures.value
    ∙ ap (λ (rows : MissionRows). rows.passes) c.mission.view_is in
    let packets = ap (λ (d : Dump). d.packets) next_is in
    let some : 0 < x c.args.store c.args.step = omega (arith, packets, c.if-next-eq0.false) in
    on_ok_weaker c.push_dump.result
    (sent_added m c.args.edges.now x c.requires.times c.args.store c.args.step c.requires.first c.requires.last
    c.requires.store some c.args.dumps.now.items c.push_dump.new.dumps.items c.requires.sent)
    (rw (passes, next_is) at c.push_dump.ensures)
