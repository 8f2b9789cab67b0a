use Rattle.std.proofs.Common.{◌≡◌, ℕ, ◌<◌, slice_index, ap, sym, ◌∙◌, arith, inl, inr}
use Rattle.std.proofs.lemmas.List.{get_or_read}
use Rattle.std.proofs.lemmas.Bool.{cases_eq}
use Rattle.mm_flow.specs.declared.links.Step.{Step}
use Rattle.mm_flow.specs.Links.{step, start, end, spot}
use Rattle.mm_flow.specs.Residual.{head, residual}
use Rattle.mm_flow.specs.Marks.{level}
use Rattle.mm_flow.proofs.Linking.{spot_within}
use Rattle.mm_flow.proofs.Visiting.{marked_lt, goes_on_same, goes_on_further, search_next}
use Rattle.mm_flow.proofs.search.Search.visit.Goals as goal
use Rattle.mm_flow.proofs.search.Search.visit.Goals.{After-index-node}

-- the node that waits next
node_is : (c : After-index-node)
    → c.index-node.result.now ≡ slice_index c.args.self.now.order.items c.args.self.now.done
node_is c =
    let search = c.requires.search in
    get_or_read c.args.self.now.order.items c.args.self.now.done c.index-node.result.now
    (omega (arith, search.count, search.order_size, c.requires.waits)) c.index-node.ensures 0

-- it is a node of the network
node_lt : (c : After-index-node) → c.index-node.result.now < c.args.residual.now.network.now.graph.nodes
node_lt c =
    let s = c.args.self.now in
    let search = c.requires.search in
    let marked = search.queued s.done c.requires.waits in
    omega (arith, node_is c, marked_lt s.marks.items (slice_index s.order.items s.done) marked, search.marking.size)

pub start-first-requires : goal.start-first-requires
start-first-requires c = omega (arith, node_lt (goal.at.start-first-requires c).After-index-node)

pub end-end-requires : goal.end-end-requires
end-end-requires c = node_lt (goal.at.end-end-requires c).After-index-node

pub loop-at-init : goal.loop-at-init
loop-at-init c = record {
  known = node_lt (goal.at.loop-at-init c).After-index-node;
  ends = c.end-end.ensures;
  searching = c.requires.search;
  goes_on = goes_on_same c.args.self.now;
  from = omega (arith, c.start-first.ensures);
  swept = λ i up below fits. absurd (omega (arith, c.start-first.ensures, up, below));
}

pub reach-requires-clause-from : goal.reach-requires-clause-from
reach-requires-clause-from c =
    let s = c.args.self.now in
    let node = node_is (goal.at.reach-requires-clause-from c).After-index-node in
    c.loop-at.invariant.goes_on.marked c.index-node.result.now
    (omega (arith, c.requires.search.queued s.done c.requires.waits, ap (level s.marks.items) node))

pub loop-at-preserved : goal.loop-at-preserved
loop-at-preserved c =
    let g = c.args.residual.now.network.now.graph in
    let f = slice_index c.args.residual.now.flow.items in
    let steps = c.args.residual.now.links.steps.items in
    let entry_is = ap (λ (s : Step). s.entry) c.step_at-step.ensures.step in
    let invariant = c.loop-at.invariant in
    let kept = c.reach.ensures.kept in
    record {
      known = invariant.known;
      ends = invariant.ends;
      searching = c.reach.ensures.search;
      goes_on = goes_on_further c.args.self.now c.loop-at.self c.reach.new.self invariant.goes_on kept;
      from = omega (arith, invariant.from);
      swept = λ i up below fits. elim (cases_eq i c.loop-at.at) [
        | inl same ↦
            let there : (step steps i).entry ≡ c.step_at-step.result.entry =
            ap (λ (j : ℕ). (step steps j).entry) same ∙ sym entry_is in
            omega (
              arith,
              ap (λ (d : ℕ). level c.reach.new.self.marks.items (head g d)) there,
              c.reach.ensures.leads (omega (arith, fits, ap (residual g f) there, kept.least)),
            )
        | inr other ↦ kept.marked (head g (step steps i).entry)
            (invariant.swept i up (omega arith) (omega (arith, fits, kept.least)))
      ];
    }

pub returns-clause-search : goal.returns-clause-search
returns-clause-search c =
    let g = c.args.residual.now.network.now.graph in
    let f = slice_index c.args.residual.now.flow.items in
    let s = c.loop-at.self in
    let at_node = c.index-node.result.now in
    let invariant = c.loop-at.invariant in
    let gone = invariant.goes_on in
    let node = node_is (goal.at.returns-clause-search c).After-index-node in
    let here : slice_index s.order.items s.done ≡ at_node =
    ap (slice_index s.order.items) gone.done ∙ gone.order c.args.self.now.done c.requires.waits ∙ sym node in
    search_next g f s.source s.least s.marks.items s.order.items s.found s.done at_node invariant.searching
    (omega (arith, gone.done, gone.found, c.requires.waits)) here
    (λ e there leaves fits.
    let within = spot_within g e there in
    let stands = c.args.residual.now.sound.linked.each e there in
    let marked = invariant.swept (spot g e) (omega (arith, within.0, ap (start g) leaves))
    (omega (arith, within.1, ap (end g) leaves, invariant.ends)) (omega (arith, fits, ap (residual g f) stands)) in
    omega (arith, marked, ap (λ (d : ℕ). level s.marks.items (head g d)) stands))
