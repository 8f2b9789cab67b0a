-- The network as it is built, step by step.
use Rattle.std.specs.Prelude.{◌≡◌, ℕ, ◌+◌, ◌≤◌, List, [], ◌++◌, length}
use Rattle.mm_base.specs.declared.limits.TheConstants.{MAX_STEPS}
use Rattle.mm_problem.specs.Dumping.{Dumping}
use Rattle.mm_flow.specs.declared.arc.Arc.{Arc}
use Rattle.mm_flow.specs.declared.limits.TheConstants.{MAX_NODES, MAX_ARCS}
use Rattle.mm_flow.specs.Graph.{Graph}
use Rattle.mm_flow.specs.Built.{Built}
use Rattle.mm_planner.specs.Network.{net}

-- a graph with this number of nodes and no arc
abbrev pub nodes_alone : ℕ → Graph
nodes_alone n = record { nodes = n; arcs = [] }

-- a graph with more arcs
abbrev pub with_arcs : Graph → List Arc → Graph
with_arcs g arcs = record { nodes = g.nodes; arcs = g.arcs ++ arcs }

-- the second network is the first with more arcs
abbrev pub AddsArcs : Built → Built → List Arc → Type 0
AddsArcs old new arcs = new.graph ≡ with_arcs old.graph arcs

-- a step of the problem, which is within the limit
pub record IsStep (q : Dumping) (t : ℕ) : Type 0 where
  pub first : 1 ≤ t
  pub last : t ≤ length q.windows
  pub most : t ≤ MAX_STEPS

-- the second graph has the same nodes, and at most this number of arcs more
pub record KeepsRoom (old new : Graph) (more : ℕ) : Type 0 where
  pub nodes : new.nodes ≡ old.nodes
  pub arcs : length new.arcs ≤ length old.arcs + more

-- the graph has the nodes of the problem's network, and room for this number of arcs more
pub record HasRoom (q : Dumping) (g : Graph) (more : ℕ) : Type 0 where
  pub nodes : g.nodes ≡ (net q).nodes
  pub few_nodes : g.nodes ≤ MAX_NODES
  pub arcs : length g.arcs + more ≤ MAX_ARCS
