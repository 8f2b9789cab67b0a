-- Residual capacities: each arc has an entry forward, with what it can still carry, and one backward, with what can
-- be taken back. Ford and Fulkerson, 1956; "residual network" in Cormen et al., "Introduction to Algorithms".
use Rattle.std.specs.Prelude.{◌≡◌, ◌≢◌, ℕ, ◌+◌, ◌-◌, ◌*◌, ◌≤◌, Bool, nat_lt, ◌==◌, if◌then◌else◌, length, Option, Some}
use Rattle.std.specs.Prelude.{None}
use Rattle.mm_flow.specs.declared.limits.TheConstants.{UNLIMITED}
use Rattle.mm_flow.specs.Graph.{Graph, arc}
use Rattle.mm_flow.specs.Flow.{Flow, IsWithin, entering, leaving}

-- the number of entries: the arcs forward, then the arcs backward
abbrev pub entries : Graph → ℕ
entries g = 2 * length g.arcs

-- whether an entry is an arc forward
abbrev pub is_forward : Graph → ℕ → Bool
is_forward g e = nat_lt e (length g.arcs)

-- the arc of an entry
unfoldable pub place : Graph → ℕ → ℕ
place g e = if is_forward g e then e else e - length g.arcs

-- the node that an entry leaves
unfoldable pub tail : Graph → ℕ → ℕ
tail g e = if is_forward g e then (arc g e).from else (arc g (e - length g.arcs)).to

-- the node that an entry leads to
unfoldable pub head : Graph → ℕ → ℕ
head g e = if is_forward g e then (arc g e).to else (arc g (e - length g.arcs)).from

-- the entry of the same arc that leads the other way
unfoldable pub twin : Graph → ℕ → ℕ
twin g e = if is_forward g e then e + length g.arcs else e - length g.arcs

-- the residual capacity of an arc with this flow; that of an unlimited arc is above every limited one
abbrev pub spare : Option ℕ → ℕ → ℕ
spare None carried = UNLIMITED
spare (Some most) carried = most - carried

-- the residual capacity of an entry
unfoldable pub residual : Graph → Flow → ℕ → ℕ
residual g f e = if is_forward g e then spare (arc g e).capacity (f e) else f (e - length g.arcs)

-- the new flow is the old one with an amount moved along an entry
pub record IsPushed (g : Graph) (old new : Flow) (e amount : ℕ) : Type 0 where
  pub within : IsWithin g old → IsWithin g new
  pub moves : (n : ℕ) → entering g new n + leaving g old n + (if tail g e == n then amount else 0)
      ≡ entering g old n + leaving g new n + (if head g e == n then amount else 0)
  pub elsewhere : (k : ℕ) → k ≢ place g e → new k ≡ old k
  pub most : new (place g e) ≤ old (place g e) + amount
  pub kept : (k : ℕ) → (arc g k).from ≢ head g e → old k ≤ new k
