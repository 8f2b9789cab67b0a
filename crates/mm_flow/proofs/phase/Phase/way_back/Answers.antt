use Rattle.std.proofs.Common.{subst, arith}
use Rattle.std.proofs.lemmas.List.{get_or_read}
use Rattle.mm_flow.specs.declared.links.Step.{Step}
use Rattle.mm_flow.specs.Phase.{LeadsUp}
use Rattle.mm_flow.proofs.phase.Phase.way_back.Goals as goal

pub loop-cursor-init : goal.loop-cursor-init
loop-cursor-init c =
    let p = c.args.self.now in
    let read = get_or_read p.next.items c.args.at c.index-cursor.result.now (omega (arith, p.cursors.size, c.requires)) c.index-cursor.ensures 0 in
    record { own = omega (arith, read, p.cursors.own c.args.at); most = omega (arith, read) }

pub returns-else-not-leads_up-clause-leads : goal.returns-else-not-leads_up-clause-leads
returns-else-not-leads_up-clause-leads c = λ some.
    let own = c.step.ensures.own in
    subst (λ (s : Step). LeadsUp c.args.self.now c.args.at s.entry) c.step.ensures.step (record { known = own.known; leaves = own.leaves; back = c.leads_up.ensures c.if-not-leads_up.false })
