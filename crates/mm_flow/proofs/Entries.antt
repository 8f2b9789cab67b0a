-- Residual entries, forward and backward.
use Rattle.std.proofs.Common.{◌≡◌, ℕ, ◌+◌, ◌-◌, ◌^◌, ◌<◌, ◌≤◌, Option, Some, None, length, ap, sym, ◌∙◌, refl, arith, inl, inr, lt-ltb, le-ltb}
use Rattle.std.proofs.lemmas.Bool.{cases_lt}
use Rattle.mm_flow.specs.declared.arc.Arc.{Arc}
use Rattle.mm_flow.specs.declared.limits.TheConstants.{MAX_CAPACITY, MAX_VALUE}
use Rattle.mm_flow.specs.Graph.{Graph, arc, IsNetwork}
use Rattle.mm_flow.specs.Flow.{Flow, IsWithin}
use Rattle.mm_flow.specs.Residual.{entries, place, tail, head, twin, residual, spare}

module _ (g : Graph) (e : ℕ) (forward : e < length g.arcs) where
  -- the arc of a forward entry
  pub place-forward : place g e ≡ e
  unfolding place
  place-forward = rw (lt-ltb e (length g.arcs) forward) refl

  -- a forward entry leaves the arc's first node
  pub tail-forward : tail g e ≡ (arc g e).from
  unfolding tail
  tail-forward = rw (lt-ltb e (length g.arcs) forward) refl

  -- a forward entry leads to the arc's second node
  pub head-forward : head g e ≡ (arc g e).to
  unfolding head
  head-forward = rw (lt-ltb e (length g.arcs) forward) refl

  -- what a forward entry can carry
  pub residual-forward : (f : Flow) → residual g f e ≡ spare (arc g e).capacity (f e)
  unfolding residual
  residual-forward f = rw (lt-ltb e (length g.arcs) forward) refl

module _ (g : Graph) (e : ℕ) (backward : length g.arcs ≤ e) where
  -- the arc of a backward entry
  pub place-backward : place g e ≡ e - length g.arcs
  unfolding place
  place-backward = rw (le-ltb e (length g.arcs) backward) refl

  -- a backward entry leaves the arc's second node
  pub tail-backward : tail g e ≡ (arc g (e - length g.arcs)).to
  unfolding tail
  tail-backward = rw (le-ltb e (length g.arcs) backward) refl

  -- a backward entry leads to the arc's first node
  pub head-backward : head g e ≡ (arc g (e - length g.arcs)).from
  unfolding head
  head-backward = rw (le-ltb e (length g.arcs) backward) refl

  -- what a backward entry can take back
  pub residual-backward : (f : Flow) → residual g f e ≡ f (e - length g.arcs)
  unfolding residual
  residual-backward f = rw (le-ltb e (length g.arcs) backward) refl

-- the twin of a forward entry
twin-forward : (g : Graph) (e : ℕ) → e < length g.arcs → twin g e ≡ e + length g.arcs
unfolding twin
twin-forward g e forward = rw (lt-ltb e (length g.arcs) forward) refl

-- the twin of a backward entry
twin-backward : (g : Graph) (e : ℕ) → length g.arcs ≤ e → twin g e ≡ e - length g.arcs
unfolding twin
twin-backward g e backward = rw (le-ltb e (length g.arcs) backward) refl

-- the twin of an entry leaves the node that the entry leads to, and leads to the node that it leaves
pub twin_ends : (g : Graph) (e : ℕ) → e < entries g → (tail g (twin g e) ≡ head g e) × (head g (twin g e) ≡ tail g e)
twin_ends g e known =
    elim (cases_lt e (length g.arcs)) [
      | inl forward ↦
          let is = twin-forward g e forward in
          let at = ap (arc g) (let back : twin g e - length g.arcs ≡ e = omega arith in back) in
          (tail-backward g (twin g e) (omega arith) ∙ ap (λ (a : Arc). a.to) at ∙ sym (head-forward g e forward), head-backward g (twin g e) (omega arith) ∙ ap (λ (a : Arc). a.from) at ∙ sym (tail-forward g e forward))
      | inr backward ↦
          let is = twin-backward g e backward in
          let at = ap (arc g) is in
          (tail-forward g (twin g e) (omega arith) ∙ ap (λ (a : Arc). a.from) at ∙ sym (head-backward g e backward), head-forward g (twin g e) (omega arith) ∙ ap (λ (a : Arc). a.to) at ∙ sym (tail-backward g e backward))
    ]

-- an arc can carry as much more as its forward entry
spare_keeps : (most : Option ℕ) (carried amount b : ℕ) → amount ≤ spare most carried → carried ≤ b → most ≡ Some b → carried + amount ≤ b
spare_keeps None carried amount b fits within some = absurd (cc)
spare_keeps (Some x) carried amount b fits within some = let same : x ≡ b = cc in omega arith

-- what an arc carries after a push is a number of 64 bits
spare_fits : (most : Option ℕ) (carried amount : ℕ) → amount ≤ spare most carried → ((b : ℕ) → most ≡ Some b → b ≤ MAX_CAPACITY) → carried ≤ MAX_VALUE → carried + amount < 2 ^ 64
spare_fits None carried amount fits limit small = omega arith
spare_fits (Some b) carried amount fits limit small = let most : b ≤ MAX_CAPACITY = limit b refl in omega arith

-- a forward push keeps the flow within the capacity
pub forward_within : (g : Graph) (f : Flow) (e amount b : ℕ) → e < length g.arcs → amount ≤ residual g f e → IsWithin g f → (arc g e).capacity ≡ Some b → f e + amount ≤ b
forward_within g f e amount b forward fits within some =
    spare_keeps (arc g e).capacity (f e) amount b (omega (arith, residual-forward g e forward f)) (within e b some) some

-- a forward push leaves a number of 64 bits
pub forward_fits : (g : Graph) (f : Flow) (e amount : ℕ) → IsNetwork g → e < length g.arcs → amount ≤ residual g f e → f (place g e) ≤ MAX_VALUE → f e + amount < 2 ^ 64
forward_fits g f e amount network forward fits small =
    spare_fits (arc g e).capacity (f e) amount (omega (arith, residual-forward g e forward f)) (network.each e forward).capacity (omega (arith, ap f (place-forward g e forward)))
