-- A network: nodes numbered from 0, and a list of arcs between them.
use Rattle.std.specs.Prelude.{ℕ, ◌<◌, ◌≤◌, List, length, None, slice_index_or, Bool, ◌==◌}
use Rattle.std.specs.List.{range_with_len}
use Rattle.std.specs.Option.{ForSome}
use Rattle.mm_flow.specs.declared.arc.Arc.{Arc}
use Rattle.mm_flow.specs.declared.limits.TheConstants.{MAX_NODES, MAX_ARCS, MAX_CAPACITY}

-- the number of nodes, and the arcs
pub record Graph : Type 0 where
  pub nodes : ℕ
  pub arcs : List Arc

-- what stands past the last arc
abbrev pub no_arc : Arc
no_arc = record { from = 0; to = 0; capacity = None }

-- the arc with a number
abbrev pub arc : Graph → ℕ → Arc
arc g k = slice_index_or g.arcs k no_arc

-- the numbers of the arcs
abbrev pub places : Graph → List ℕ
places g = range_with_len 0 (length g.arcs)

-- whether an arc starts at a node
abbrev pub starts_at : Graph → ℕ → ℕ → Bool
starts_at g n k = (arc g k).from == n

-- whether an arc ends at a node
abbrev pub ends_at : Graph → ℕ → ℕ → Bool
ends_at g n k = (arc g k).to == n

-- an arc between nodes that exist, with a capacity within the limit
pub record IsArcWithin (nodes : ℕ) (a : Arc) : Type 0 where
  pub from : a.from < nodes
  pub to : a.to < nodes
  pub capacity : ForSome a.capacity (λ most. most ≤ MAX_CAPACITY)

-- a network within the limits
pub record IsNetwork (g : Graph) : Type 0 where
  pub nodes_within : g.nodes ≤ MAX_NODES
  pub arcs_within : length g.arcs ≤ MAX_ARCS
  pub each : (k : ℕ) → k < length g.arcs → IsArcWithin g.nodes (arc g k)
