use Rattle.std.proofs.Common.{◌≡◌, ◌<◌, ◌-◌, slice_index, ap, sym, subst, ℕ, arith}
use Rattle.std.proofs.lemmas.List.{get_or_read}
use Rattle.mm_flow.specs.Residual.{head}
use Rattle.mm_flow.specs.Levels.{IsAhead, HasLead}
use Rattle.mm_flow.specs.Phase.{LeadsFrom}
use Rattle.mm_flow.proofs.LevelPaths.{cursors_sum}
use Rattle.mm_flow.proofs.Leading.{lead_read, lead_moved, lead_known}
use Rattle.mm_flow.proofs.phase.Phase.retreat.Goals as goal
use Rattle.mm_flow.proofs.phase.Phase.retreat.Goals.{After-index, After-index_mut}

pub index-requires : goal.index-requires
index-requires c =
    let p = c.args.self.now in
    omega (arith, lead_known p c.args.at c.requires.leads, p.places, p.ahead.ok.0)

-- the entry that was read leads on to where the path came from
ahead_is : (c : After-index)
    → IsAhead c.args.self.now.tables.residual.network.now.graph (slice_index c.args.self.now.tables.residual.flow.items) c.args.self.now.tables.search.marks.items c.args.self.now.next.items c.args.at c.index.result.now
    × LeadsFrom c.args.self.now (head c.args.self.now.tables.residual.network.now.graph c.index.result.now)
ahead_is c = lead_read c.args.self.now c.args.at c.index.result.now c.requires.leads c.requires.inner c.index.ensures

pub head-to-requires : goal.head-to-requires
head-to-requires c = (ahead_is (goal.at.head-to-requires c).After-index).0.up.known

-- the cursor of the node that the path goes back to stands
stands : (c : After-index_mut) → 0 < slice_index c.args.self.now.next.items (head c.args.self.now.tables.residual.network.now.graph c.index.result.now)
    → (c.index_mut.result.now ≡ slice_index c.args.self.now.next.items c.head-to.result) × (0 < slice_index c.args.self.now.next.items c.head-to.result)
stands c some =
    let p = c.args.self.now in
    (get_or_read p.next.items c.head-to.result c.index_mut.result.now (omega (arith, c.head-to.ensures.known, p.cursors.size)) c.index_mut.ensures.value 0, omega (arith, ap (slice_index p.next.items) c.head-to.ensures.node, some))

pub overflow_sub-index_mut : goal.overflow_sub-index_mut
overflow_sub-index_mut c =
    let there = stands (goal.at.overflow_sub-index_mut c).After-index_mut (ahead_is (goal.at.overflow_sub-index_mut c).After-index).0.cursor in
    omega (arith, there.0, there.1)

pub returns-clause-cursors : goal.returns-clause-cursors
returns-clause-cursors c =
    let p = c.args.self.now in
    let there = stands (goal.at.returns-clause-cursors c).After-index_mut (ahead_is (goal.at.returns-clause-cursors c).After-index).0.cursor in
    omega (arith, there.0, there.1, cursors_sum p.tables.residual.network.now.graph p.next.items c.head-to.result (c.index_mut.result.now - 1) p.cursors c.head-to.ensures.known)

pub returns-clause-leads : goal.returns-clause-leads
returns-clause-leads c =
    let p = c.args.self.now in
    let t = p.tables in
    let f = slice_index t.residual.flow.items in
    let marks = t.search.marks.items in
    let lead = (ahead_is (goal.at.returns-clause-leads c).After-index).1 in
    lead_moved t.residual.network.now.graph f t.sink marks p.next.items p.ahead.items c.head-to.result (c.index_mut.result.now - 1)
    (subst (λ (n : ℕ). HasLead t.residual.network.now.graph f marks p.next.items p.ahead.items t.sink n) (sym c.head-to.ensures.node) lead)
