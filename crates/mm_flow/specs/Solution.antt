-- A solution: a flow, and a cut that shows that no flow has a greater value.
use Rattle.std.specs.Prelude.{◌≡◌, ℕ, ◌<◌, zero, suc, List, length, None, Bool, false, slice_index, slice_index_or}
use Rattle.mm_flow.specs.declared.solved.Solved.{Solved}
use Rattle.mm_flow.specs.Graph.{Graph, arc}
use Rattle.mm_flow.specs.Flow.{Flow, IsFlow}
use Rattle.mm_flow.specs.Balance.{IsBegun, KeepsSource}
use Rattle.mm_flow.specs.Cut.{Side, IsCut, capacity_of}

-- a flow of this value, and a cut whose capacity is the value
pub record IsSolution (g : Graph) (source sink : ℕ) (f : Flow) (side : Side) (value : ℕ) : Type 0 where
  pub flow : IsFlow g source sink f value
  pub cut : IsCut g source sink side
  pub equal : capacity_of g side ≡ value

-- the side that a table of nodes shows
abbrev pub side_of : List Bool → Side
side_of table n = slice_index_or table n false

-- a solution in tables: the flow on each arc, the nodes on the source side, and the value
pub record IsSolved (g : Graph) (source sink : ℕ) (s : Solved) : Type 0 where
  pub arcs : length s.flow.items ≡ length g.arcs
  pub nodes : length s.side.items ≡ g.nodes
  pub solution : IsSolution g source sink (slice_index s.flow.items) (side_of s.side.items) s.value

-- a solution that continues from an earlier flow, and from which a solver can continue
pub record Continues (g : Graph) (source sink : ℕ) (old new : Solved) : Type 0 where
  pub solved : IsSolved g source sink new
  pub begun : IsBegun g source sink new
  pub kept : KeepsSource g source (slice_index old.flow.items) (slice_index new.flow.items)

-- an unlimited arc leads from one node to another
abbrev pub HasUnlimited : Graph → ℕ → ℕ → Type 0
HasUnlimited g from to = (k : ℕ) × (k < length g.arcs) × ((arc g k).from ≡ from) × ((arc g k).to ≡ to)
    × ((arc g k).capacity ≡ None)

-- a path of this number of unlimited arcs leads from one node to another
abbrev pub IsWalk : Graph → ℕ → ℕ → ℕ → Type 0
IsWalk g from to zero = from ≡ to
IsWalk g from to (suc n) = (last : ℕ) × IsWalk g from last n × HasUnlimited g last to

-- a path of unlimited arcs leads from one node to another
abbrev pub HasUnlimitedPath : Graph → ℕ → ℕ → Type 0
HasUnlimitedPath g from to = (n : ℕ) × IsWalk g from to n
