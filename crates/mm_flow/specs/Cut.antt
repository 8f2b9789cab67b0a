-- Cuts: Ford and Fulkerson, "Maximal flow through a network", 1956.
use Rattle.std.specs.Prelude.{◌≡◌, ℕ, ◌<◌, Bool, true, false, not, ◌&&◌, length, IsSome, unwrap_or, sum_by, filter}
use Rattle.mm_flow.specs.Graph.{Graph, arc, places}
use Rattle.mm_flow.specs.Flow.{Flow}

-- which nodes are on the source's side
abbrev pub Side : Type 0
Side = ℕ → Bool

-- whether an arc leads out of a side
abbrev pub leaves : Graph → Side → ℕ → Bool
leaves g side k = side (arc g k).from && not (side (arc g k).to)

-- whether an arc leads into a side
abbrev pub enters : Graph → Side → ℕ → Bool
enters g side k = side (arc g k).to && not (side (arc g k).from)

-- the flow on the arcs out of a side
unfoldable pub flow_out : Graph → Side → Flow → ℕ
flow_out g side f = sum_by f (filter (leaves g side) (places g))

-- the flow on the arcs into a side
unfoldable pub flow_in : Graph → Side → Flow → ℕ
flow_in g side f = sum_by f (filter (enters g side) (places g))

-- an arc's capacity, and 0 for an unlimited one
abbrev pub limit_of : Graph → ℕ → ℕ
limit_of g k = unwrap_or (arc g k).capacity 0

-- the sum of the capacities of the arcs out of a side
unfoldable pub capacity_of : Graph → Side → ℕ
capacity_of g side = sum_by (limit_of g) (filter (leaves g side) (places g))

-- a side with the source and without the sink, which no unlimited arc leaves
pub record IsCut (g : Graph) (source sink : ℕ) (side : Side) : Type 0 where
  pub has_source : side source ≡ true
  pub lacks_sink : side sink ≡ false
  pub limited : (k : ℕ) → k < length g.arcs → leaves g side k ≡ true → IsSome (arc g k).capacity
