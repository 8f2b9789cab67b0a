use Rattle.std.proofs.Common.{ℕ, slice_index, slice_set, ap, sym, ◌∙◌, subst, arith}
use Rattle.std.proofs.lemmas.List.{length-set}
use Rattle.mm_flow.specs.declared.links.Step.{Step}
use Rattle.mm_flow.specs.Residual.{tail, head, twin}
use Rattle.mm_flow.specs.Marks.{level}
use Rattle.mm_flow.specs.Levels.{IsCursors, IsUp}
use Rattle.mm_flow.proofs.Entries.{twin_ends}
use Rattle.mm_flow.proofs.LevelPaths.{cursors_put}
use Rattle.mm_flow.proofs.Leading.{lead_known, lead_moved, lead_longer}
use Rattle.mm_flow.proofs.phase.Phase.step_back.Goals as goal
use Rattle.mm_flow.proofs.phase.Phase.step_back.Goals.{After-way_back-cursor}

pub way_back-cursor-requires : goal.way_back-cursor-requires
way_back-cursor-requires c = record { known = lead_known c.args.self.now c.args.at c.requires.leads }

pub index_mut-requires : goal.index_mut-requires
index_mut-requires c =
    let p = c.args.self.now in
    omega (arith, lead_known p c.args.at c.requires.leads, p.cursors.size, p.next.ok.0)

-- the cursors, with the node's where it was moved to
cursors_there : (c : After-way_back-cursor) → IsCursors c.args.self.now.tables.residual.network.now.graph (slice_set c.args.self.now.next.items c.args.at c.way_back-cursor.result)
cursors_there c =
    let p = c.args.self.now in
    let g = p.tables.residual.network.now.graph in
    cursors_put g p.next.items c.args.at c.way_back-cursor.result p.cursors (lead_known p c.args.at c.requires.leads) (omega (arith, c.way_back-cursor.ensures.most, p.cursors.own c.args.at))

pub invariant_of-self : goal.invariant_of-self
invariant_of-self c = record { cursors = cursors_there (goal.at.invariant_of-self c).After-way_back-cursor; places = c.args.self.now.places }

pub returns-then-cursor-eq0-clause-stays : goal.returns-then-cursor-eq0-clause-stays
returns-then-cursor-eq0-clause-stays c =
    let p = c.args.self.now in
    let t = p.tables in
    lead_moved t.residual.network.now.graph (slice_index t.residual.flow.items) t.sink t.search.marks.items p.next.items p.ahead.items c.args.at c.way_back-cursor.result c.requires.leads

pub invariant_of-self-2 : goal.invariant_of-self-2
invariant_of-self-2 c = record {
  cursors = cursors_there (goal.at.invariant_of-self-2 c).After-way_back-cursor;
  places = omega (arith, length-set c.args.self.now.ahead.items c.step-step.result.head c.twin.result, c.args.self.now.places);
}

pub returns-clause-leads : goal.returns-clause-leads
returns-clause-leads c =
    let p = c.args.self.now in
    let t = p.tables in
    let g = t.residual.network.now.graph in
    let f = slice_index t.residual.flow.items in
    let marks = t.search.marks.items in
    let up = c.way_back-cursor.ensures.leads (omega arith) in
    let own = c.step-step.ensures.own in
    let e = c.step-step.result.entry in
    let twin_is = c.twin.ensures.twin in
    let entry_is = ap (λ (s : Step). s.entry) c.step-step.ensures.step in
    let back : IsUp g f marks c.twin.result = subst (λ (d : ℕ). IsUp g f marks d) (sym (twin_is ∙ ap (twin g) entry_is)) up.back in
    let leaves = ap (tail g) twin_is ∙ (twin_ends g e own.known).0 ∙ sym own.leads in
    let leads = ap (head g) twin_is ∙ (twin_ends g e own.known).1 ∙ own.leaves in
    lead_longer g f t.sink marks p.next.items p.ahead.items c.args.at c.way_back-cursor.result c.twin.result c.step-step.result.head c.requires.leads back leaves leads
    (omega arith) (omega (arith, lead_known p c.args.at c.requires.leads, p.cursors.size)) (omega (arith, own.there, p.places))

pub returns-clause-lower : goal.returns-clause-lower
returns-clause-lower c =
    let t = c.args.self.now.tables in
    let g = t.residual.network.now.graph in
    let marks = t.search.marks.items in
    let up = c.way_back-cursor.ensures.leads (omega arith) in
    let own = c.step-step.ensures.own in
    let e = c.step-step.result.entry in
    let twin_is = ap (twin g) (ap (λ (s : Step). s.entry) c.step-step.ensures.step) in
    let from = ap (level marks) (ap (tail g) (sym twin_is) ∙ (twin_ends g e own.known).0 ∙ sym own.leads) in
    let to = ap (level marks) (ap (head g) (sym twin_is) ∙ (twin_ends g e own.known).1 ∙ own.leaves) in
    omega (arith, up.back.up, from, to)
