use Rattle.std.proofs.Common.{◌≢◌, ℕ, slice_index, ap, sym, ◌∙◌, subst, arith}
use Rattle.mm_flow.specs.Residual.{head}
use Rattle.mm_flow.specs.Marks.{level}
use Rattle.mm_flow.specs.Levels.{IsAhead, HasLead}
use Rattle.mm_flow.specs.Phase.{LeadsFrom}
use Rattle.mm_flow.specs.Task.{Reaches}
use Rattle.mm_flow.proofs.Leading.{lead_known, lead_read, lead-le, lead_same}
use Rattle.mm_flow.proofs.Working.{same_further}
use Rattle.mm_flow.proofs.phase.Phase.follow.Goals as goal
use Rattle.mm_flow.proofs.phase.Phase.follow.Goals.{After-index-entry}

pub index-entry-requires : goal.index-entry-requires
index-entry-requires c =
    let p = c.loop-at.self in
    omega (arith, lead_known p c.loop-at.at c.loop-at.invariant.leads, p.places, p.ahead.ok.0)

-- the entry that was read leads on up
ahead_is : (c : After-index-entry) → c.loop-at.at ≢ c.loop-at.self.tables.sink
    → IsAhead c.loop-at.self.tables.residual.network.now.graph (slice_index c.loop-at.self.tables.residual.flow.items) c.loop-at.self.tables.search.marks.items c.loop-at.self.next.items c.loop-at.at c.index-entry.result.now
    × LeadsFrom c.loop-at.self (head c.loop-at.self.tables.residual.network.now.graph c.index-entry.result.now)
ahead_is c ne = lead_read c.loop-at.self c.loop-at.at c.index-entry.result.now c.loop-at.invariant.leads ne c.index-entry.ensures

pub reach_by-at-requires-clause-up : goal.reach_by-at-requires-clause-up
reach_by-at-requires-clause-up c = (ahead_is (goal.at.reach_by-at-requires-clause-up c).After-index-entry (omega arith)).0.up

pub reach_by-at-requires-clause-path : goal.reach_by-at-requires-clause-path
reach_by-at-requires-clause-path c =
    subst (λ (n : ℕ). Reaches c.loop-at.self.tables n) (sym (ahead_is (goal.at.reach_by-at-requires-clause-path c).After-index-entry (omega arith)).0.leaves) c.loop-at.invariant.path

pub loop-at-smaller : goal.loop-at-smaller
loop-at-smaller c =
    let p = c.loop-at.self in
    let t = p.tables in
    let marks = t.search.marks.items in
    let e = c.index-entry.result.now in
    let ahead = ahead_is (goal.at.loop-at-smaller c).After-index-entry (omega arith) in
    let within = lead-le t.residual.network.now.graph (slice_index t.residual.flow.items) t.sink marks p.next.items p.ahead.items ahead.1.0 (head t.residual.network.now.graph e) ahead.1.1 in
    let to = ap (level marks) c.reach_by-at.ensures.to in
    let sink = ap (level marks) c.reach_by-at.ensures.task.sink in
    omega (arith, within, to, sink, ahead.0.up.up, ap (level marks) ahead.0.leaves, c.reach_by-at.ensures.kept.levels c.reach_by-at.new.self.sink, c.reach_by-at.ensures.kept.levels c.reach_by-at.result)

pub loop-at-preserved : goal.loop-at-preserved
loop-at-preserved c =
    let p = c.loop-at.self in
    let t = p.tables in
    let u = c.reach_by-at.new.self in
    let e = c.index-entry.result.now in
    let run = c.reach_by-at.ensures in
    let invariant = c.loop-at.invariant in
    let ahead = ahead_is (goal.at.loop-at-preserved c).After-index-entry (omega arith) in
    let back = sym c.reach_by-at.ensures.to in
    record {
      task = same_further c.args.self.now.tables t u invariant.task run.task;
      value = run.kept.value ∙ invariant.value;
      leads = subst (λ (n : ℕ). HasLead u.residual.network.now.graph (slice_index u.residual.flow.items) u.search.marks.items p.next.items p.ahead.items u.sink n) back (lead_same t u p.next.items p.ahead.items (head t.residual.network.now.graph e) run.task run.kept.flow run.kept.levels ahead.1);
      path = run.path;
    }
