use Rattle.std.proofs.Common.{◌≡◌, ◌-◌}
use Rattle.mm_flow.specs.Marks.{IsSearching}
use Rattle.mm_flow.proofs.search.Search.run_to.Given as goal

abbrev pub invariant-loop-self : goal.invariant-loop-self
invariant-loop-self l = record {
  searching : IsSearching l.residual l.self;
  source : l.self.source ≡ l.fn.self.source;
  least : l.self.least ≡ 1;
}

abbrev pub decreases-loop-self : goal.decreases-loop-self
decreases-loop-self l = l.residual.network.now.graph.nodes - l.self.done
