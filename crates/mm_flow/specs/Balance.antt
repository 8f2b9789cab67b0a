-- Balanced flows, which augmentations keep balanced.
use Rattle.std.specs.Prelude.{◌≡◌, ℕ, ◌+◌, ◌≤◌, ◌==◌, if◌then◌else◌, List, length, slice_index}
use Rattle.mm_flow.specs.declared.limits.TheConstants.{MAX_VALUE}
use Rattle.mm_flow.specs.declared.solved.Solved.{Solved}
use Rattle.mm_flow.specs.Graph.{Graph, arc}
use Rattle.mm_flow.specs.Flow.{Flow, IsFlow, IsWithin, entering, leaving}

-- as much enters each node as leaves it, if the value enters the source from outside and leaves the sink to outside
abbrev pub IsBalanced : Graph → ℕ → ℕ → Flow → ℕ → Type 0
IsBalanced g source sink f value =
    (n : ℕ) → entering g f n + (if source == n then value else 0) ≡ leaving g f n + (if sink == n then value else 0)

-- the same, if a further amount leaves the sink to outside, and was followed back to a node
abbrev pub IsBalancedAt : Graph → ℕ → ℕ → Flow → ℕ → ℕ → ℕ → Type 0
IsBalancedAt g source sink f value at amount =
    (n : ℕ) → entering g f n + (if source == n then value else 0) + (if at == n then amount else 0)
    ≡ leaving g f n + (if sink == n then value + amount else 0)

-- a flow that augmentations made of the flow of zeros: no arc carries more than its capacity, or than the value
pub record IsAugmented (g : Graph) (source sink : ℕ) (f : Flow) (value : ℕ) : Type 0 where
  pub within : IsWithin g f
  pub balanced : IsBalanced g source sink f value
  pub most : (k : ℕ) → f k ≤ value

-- a balanced flow of any value becomes one of this amount more
abbrev pub Augments : Graph → ℕ → ℕ → Flow → Flow → ℕ → Type 0
Augments g source sink old new amount = (value : ℕ) → IsAugmented g source sink old value
    → IsAugmented g source sink new (value + amount)

-- a flow in a table, which is small enough that no sum with a residual capacity overflows
pub record IsCarried (g : Graph) (flow : List ℕ) : Type 0 where
  pub arcs : length flow ≡ length g.arcs
  pub within : IsWithin g (slice_index flow)
  pub small : (k : ℕ) → slice_index flow k ≤ MAX_VALUE

-- a flow in a table, from which a solver can continue
pub record IsBegun (g : Graph) (source sink : ℕ) (s : Solved) : Type 0 where
  pub arcs : length s.flow.items ≡ length g.arcs
  pub augmented : IsAugmented g source sink (slice_index s.flow.items) s.value

-- no arc from the source carries less
abbrev pub KeepsSource : Graph → ℕ → Flow → Flow → Type 0
KeepsSource g source old new = (k : ℕ) → (arc g k).from ≡ source → old k ≤ new k

-- the value of each flow is at most what this number of arcs of the greatest capacity carry together
abbrev pub IsBounded : Graph → ℕ → ℕ → Type 0
IsBounded g source sink = (f : Flow) (value : ℕ) → IsFlow g source sink f value → value ≤ MAX_VALUE
