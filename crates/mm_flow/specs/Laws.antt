-- The laws of flows and cuts, over the definitions alone.
use Rattle.std.specs.Prelude.{◌≡◌, ℕ, ◌+◌, ◌≤◌, true, false}
use Rattle.mm_flow.specs.Graph.{Graph}
use Rattle.mm_flow.specs.Flow.{Flow, IsFlow}
use Rattle.mm_flow.specs.Cut.{Side, IsCut, flow_out, flow_in, capacity_of}
use Rattle.mm_flow.specs.Solution.{IsSolution}

-- what leaves a side with the source and without the sink is what enters it plus the value of the flow
abbrev pub NetFlowIsTheValue : Type 0
NetFlowIsTheValue =
    (g : Graph) (source sink : ℕ) (f : Flow) (value : ℕ) (side : Side) → IsFlow g source sink f value
    → side source ≡ true → side sink ≡ false
    → flow_out g side f ≡ flow_in g side f + value

-- the value of any flow is at most the capacity of any cut
abbrev pub ValueIsWithinEachCut : Type 0
ValueIsWithinEachCut =
    (g : Graph) (source sink : ℕ) (f : Flow) (value : ℕ) (side : Side) → IsFlow g source sink f value
    → IsCut g source sink side
    → value ≤ capacity_of g side

-- no flow has a greater value than this one, and no cut a smaller capacity than this side
pub record IsBest (g : Graph) (source sink : ℕ) (side : Side) (value : ℕ) : Type 0 where
  pub greatest : (other : Flow) (other_value : ℕ) → IsFlow g source sink other other_value → other_value ≤ value
  pub least : (other : Side) → IsCut g source sink other → capacity_of g side ≤ capacity_of g other

-- a solution's flow is a maximum flow, and its side a minimum cut
abbrev pub SolutionIsBest : Type 0
SolutionIsBest =
    (g : Graph) (source sink : ℕ) (f : Flow) (side : Side) (value : ℕ) → IsSolution g source sink f side value
    → IsBest g source sink side value
