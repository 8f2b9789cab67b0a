use Rattle.std.proofs.Common.{◌+◌, slice_index, ap, ◌∙◌, arith}
use Rattle.mm_flow.specs.declared.tables.Tables.{Tables}
use Rattle.mm_flow.specs.Marks.{level}
use Rattle.mm_flow.specs.Phase.{cursors_of}
use Rattle.mm_flow.proofs.Leading.{lead-le, falls_back}
use Rattle.mm_flow.proofs.phase.Phase.lead_back.Goals as goal

pub loop-at-smaller : goal.loop-at-smaller
loop-at-smaller c =
    let t = c.args.self.now.tables in
    let marks = t.search.marks.items in
    let p = c.retreat-at.new.self in
    let u = p.tables in
    let lead = c.retreat-at.ensures.leads in
    let same = c.retreat-at.ensures.tables ∙ c.step_back.ensures.tables ∙ c.loop-at.invariant.tables in
    let within = lead-le u.residual.network.now.graph (slice_index u.residual.flow.items) u.sink u.search.marks.items p.next.items p.ahead.items lead.0 c.retreat-at.result lead.1 in
    falls_back (cursors_of p) (cursors_of c.loop-at.self) (level marks t.sink + 1) (level marks c.retreat-at.result) (level marks c.loop-at.at)
    (omega (arith, c.retreat-at.ensures.cursors, c.step_back.ensures.cursors))
    (omega (arith, within, ap (λ (v : Tables). level v.search.marks.items c.retreat-at.result) same, ap (λ (v : Tables). level v.search.marks.items v.sink) same))
