use Rattle.std.proofs.Common.{◌≡◌, ℕ, ◌<◌, ◌≤◌, slice_index}
use Rattle.mm_flow.specs.Residual.{head, residual}
use Rattle.mm_flow.specs.Links.{start, end, step}
use Rattle.mm_flow.specs.Marks.{IsSearching, GoesOn, HasMark}
use Rattle.mm_flow.proofs.search.Search.visit.Given as goal

abbrev pub invariant-loop-at : goal.invariant-loop-at
invariant-loop-at l =
    let g = l.residual.network.now.graph in
    let entry = λ (i : ℕ). (step l.residual.links.steps.items i).entry in
    record {
      searching : IsSearching l.residual l.self;
      goes_on : GoesOn l.initial.self l.self;
      known : l.node < g.nodes;
      ends : l.end ≡ end g l.node;
      from : start g l.node ≤ l.at;
      swept : (i : ℕ) → start g l.node ≤ i → i < l.at → l.self.least ≤ residual g (slice_index l.residual.flow.items) (entry i)
          → HasMark l.self.marks.items (head g (entry i));
    }
