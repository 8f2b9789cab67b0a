use Rattle.std.proofs.Common.{◌≡◌, []}
use Rattle.mm_links.specs.Net.{IsBuilt}
use Rattle.mm_links.proofs.network.network.Given as goal

abbrev pub invariant-nodes : goal.invariant-nodes
invariant-nodes l = l.network.graph ≡ record { nodes = l.counter; arcs = [] }

abbrev pub invariant-arcs : goal.invariant-arcs
invariant-arcs l = IsBuilt l.links l.amounts l.network.graph l.number
