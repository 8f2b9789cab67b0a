use Rattle.std.proofs.Common.{◌≤◌, slice_index}
use Rattle.mm_flow.specs.Links.{degree}
use Rattle.mm_flow.proofs.phase.Phase.way_back.Given as goal

abbrev pub invariant-loop-cursor : goal.invariant-loop-cursor
invariant-loop-cursor l = record {
  own : l.cursor ≤ degree l.self.tables.residual.network.now.graph l.at;
  most : l.cursor ≤ slice_index l.self.next.items l.at;
}

abbrev pub decreases-loop-cursor : goal.decreases-loop-cursor
decreases-loop-cursor l = l.cursor
