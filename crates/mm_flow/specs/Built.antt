-- A `Network` as contracts see it: the graph so far, and the room for more.
use Rattle.std.specs.Prelude.{ℕ, ◌+◌, ◌-◌, ◌≤◌, List, [], ◌∷◌, ◌++◌, length}
use Rattle.mm_flow.specs.declared.arc.Arc.{Arc}
use Rattle.mm_flow.specs.Graph.{Graph, IsNetwork}

-- a graph, and the numbers of nodes and arcs for which memory is reserved
pub record Built : Type 0 where
  pub graph : Graph
  pub node_room : ℕ
  pub arc_room : ℕ

-- no node and no arc, and this room
abbrev pub empty : ℕ → ℕ → Built
empty nodes arcs = record { graph = record { nodes = 0; arcs = [] }; node_room = nodes; arc_room = arcs }

-- one more node, and room for one less
abbrev pub with_node : Built → Built
with_node b = record b {
  graph = record { nodes = b.graph.nodes + 1; arcs = b.graph.arcs };
  node_room =
      b.node_room - 1;
}

-- one more arc, and room for one less
abbrev pub with_arc : Built → Arc → Built
with_arc b a = record b {
  graph = record { nodes = b.graph.nodes; arcs = b.graph.arcs ++ a ∷ [] };
  arc_room =
      b.arc_room - 1;
}

-- a network within the limits, whose arcs and the room for more fit in the memory that it has
pub record IsSound (nodes : ℕ) (arcs : List Arc) (arc_room most : ℕ) : Type 0 where
  pub network : IsNetwork (record { nodes = nodes; arcs = arcs })
  pub room : length arcs + arc_room ≤ most
