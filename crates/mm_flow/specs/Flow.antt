-- Flows: Ford and Fulkerson, "Maximal flow through a network", 1956.
use Rattle.std.specs.Prelude.{◌≡◌, ◌≢◌, ℕ, ◌+◌, ◌≤◌, Some, sum_by, filter}
use Rattle.mm_flow.specs.Graph.{Graph, arc, places, starts_at, ends_at}

-- the flow on each arc
abbrev pub Flow : Type 0
Flow = ℕ → ℕ

-- the flow on the arcs that start at a node
unfoldable pub leaving : Graph → Flow → ℕ → ℕ
leaving g f n = sum_by f (filter (starts_at g n) (places g))

-- the flow on the arcs that end at a node
unfoldable pub entering : Graph → Flow → ℕ → ℕ
entering g f n = sum_by f (filter (ends_at g n) (places g))

-- each arc carries at most its capacity
abbrev pub IsWithin : Graph → Flow → Type 0
IsWithin g f = (k most : ℕ) → (arc g k).capacity ≡ Some most → f k ≤ most

-- a flow from the source to the sink: it is within every capacity, enters and leaves each other node equally, and
-- leaves the source by the value more than it enters it
pub record IsFlow (g : Graph) (source sink : ℕ) (f : Flow) (value : ℕ) : Type 0 where
  pub within : IsWithin g f
  pub conserved : (n : ℕ) → n ≢ source → n ≢ sink → entering g f n ≡ leaving g f n
  pub has_value : leaving g f source ≡ value + entering g f source
