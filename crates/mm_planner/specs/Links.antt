-- The arcs of the network as the code represents them, between nodes.
use Rattle.std.specs.Prelude.{◌<◌, ◌≤◌}
use Rattle.std.specs.Option.{ForSome}
use Rattle.mm_problem.specs.Dumping.{Dumping}
use Rattle.mm_flow.specs.declared.arc.Arc.{Arc}
use Rattle.mm_flow.specs.declared.limits.TheConstants.{MAX_CAPACITY}
use Rattle.mm_planner.specs.declared.arcs.Link.{Link}
use Rattle.mm_planner.specs.Nodes.{number_of}
use Rattle.mm_planner.specs.Network.{joined, net}

-- the arc of a link
abbrev pub arc_of : Link → Arc
arc_of link = joined link.from link.to link.capacity

-- a link between nodes of the network, with a capacity within the limit
pub record IsLink (q : Dumping) (link : Link) : Type 0 where
  pub from : number_of link.from < (net q).nodes
  pub to : number_of link.to < (net q).nodes
  pub capacity : ForSome link.capacity (λ most. most ≤ MAX_CAPACITY)
