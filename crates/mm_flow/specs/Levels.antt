-- A phase in a level graph: a search gave the levels, and flow is moved along paths each entry of which leads to a
-- higher level. Dinitz, "Algorithm for solution of a problem of maximum flow in networks with power estimation", 1970.
use Rattle.std.specs.Prelude.{◌≡◌, ℕ, zero, suc, ◌<◌, ◌≤◌, List, length, slice_index}
use Rattle.mm_flow.specs.declared.search.Mark.{Mark}
use Rattle.mm_flow.specs.declared.residual.Residual.{Residual}
use Rattle.mm_flow.specs.declared.search.Search.{Search}
use Rattle.mm_flow.specs.Graph.{Graph}
use Rattle.mm_flow.specs.Flow.{Flow}
use Rattle.mm_flow.specs.Residual.{entries, tail, head, residual}
use Rattle.mm_flow.specs.Links.{degree}
use Rattle.mm_flow.specs.Marks.{mark, level, HasMark, IsReached}

-- this number of steps leads back from a node to the source, by the entries by which the nodes were reached, and each
-- of these entries can carry an amount
abbrev pub IsPath : Graph → Flow → List Mark → ℕ → ℕ → ℕ → ℕ → Type 0
IsPath g f marks source amount zero n = n ≡ source
IsPath g f marks source amount (suc steps) n = IsReached g f marks amount n
    × IsPath g f marks source amount steps (tail g (mark marks n).via)

-- a path that can carry an amount leads from the source to a node
abbrev pub HasPath : Graph → Flow → List Mark → ℕ → ℕ → ℕ → Type 0
HasPath g f marks source amount n = (steps : ℕ) × IsPath g f marks source amount steps n

-- the path of a search to a node can carry an amount
abbrev pub Carries : Residual → Search → ℕ → ℕ → Type 0
Carries r s amount n = HasPath r.network.now.graph (slice_index r.flow.items) s.marks.items s.source amount n

-- a fact on the marks that holds throughout a phase, for any flow that was moved in it
pub record IsLevelled (g : Graph) (source : ℕ) (marks : List Mark) : Type 0 where
  pub size : length marks ≡ g.nodes
  pub start : HasMark marks source

-- each node's cursor counts some of the entries that leave the node
pub record IsCursors (g : Graph) (next : List ℕ) : Type 0 where
  pub size : length next ≡ g.nodes
  pub own : (n : ℕ) → slice_index next n ≤ degree g n

-- an entry with residual capacity leads from a marked node to one of a higher level
pub record IsUp (g : Graph) (f : Flow) (marks : List Mark) (e : ℕ) : Type 0 where
  pub known : e < entries g
  pub marked : HasMark marks (tail g e)
  pub up : level marks (tail g e) < level marks (head g e)
  pub open_still : 0 < residual g f e

-- an entry leads up from a node to one that has entries left to try
pub record IsAhead (g : Graph) (f : Flow) (marks : List Mark) (next : List ℕ) (n e : ℕ) : Type 0 where
  pub leaves : tail g e ≡ n
  pub up : IsUp g f marks e
  pub cursor : 0 < slice_index next (head g e)

-- this number of steps leads up from a node to the sink, by the nodes' entries in `ahead`
abbrev pub IsLead : Graph → Flow → List Mark → List ℕ → List ℕ → ℕ → ℕ → ℕ → Type 0
IsLead g f marks next ahead sink zero n = n ≡ sink
IsLead g f marks next ahead sink (suc steps) n = IsAhead g f marks next n (slice_index ahead n)
    × IsLead g f marks next ahead sink steps (head g (slice_index ahead n))

-- a path leads up from a node to the sink
abbrev pub HasLead : Graph → Flow → List Mark → List ℕ → List ℕ → ℕ → ℕ → Type 0
HasLead g f marks next ahead sink n = (steps : ℕ) × IsLead g f marks next ahead sink steps n
