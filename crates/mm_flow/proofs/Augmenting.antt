-- An augmentation: back along the entries by which the nodes were reached.
use Rattle.std.proofs.Common.{◌≡◌, ◌≢◌, ℕ, ◌+◌, ◌<◌, ◌≤◌, cond, eqb, length, List, ap, sym, ◌∙◌, refl, arith, inl, inr, ◌⊎◌, subst}
use Rattle.std.proofs.lemmas.Bool.{cases_eq, cases_lt, cond-true, cond-false, eq-eqb, ne_eqb}
use Rattle.mm_flow.specs.declared.search.Mark.{Mark}
use Rattle.mm_flow.specs.Graph.{Graph, arc}
use Rattle.mm_flow.specs.Flow.{Flow, IsFlow, IsWithin}
use Rattle.mm_flow.specs.declared.limits.TheConstants.{MAX_VALUE}
use Rattle.mm_flow.specs.Residual.{entries, place, tail, head, residual, spare, IsPushed}
use Rattle.mm_flow.specs.Balance.{IsBalanced, IsBalancedAt, IsAugmented, IsBounded}
use Rattle.mm_flow.specs.Marks.{mark, level, HasMark}
use Rattle.mm_flow.specs.Levels.{HasPath}
use Rattle.mm_flow.proofs.LevelPaths.{path_back}
use Rattle.mm_flow.proofs.Pushes.{cond-plus}
use Rattle.mm_flow.proofs.Entries.{place-forward, place-backward, tail-forward, tail-backward, head-forward, head-backward, residual-forward, residual-backward}

-- arcs with both ends up to a level carry what they did
unfoldable pub IsUntouched : Graph → List Mark → Flow → Flow → ℕ → Type 0
IsUntouched g marks old new upto = (k : ℕ) → level marks (arc g k).from ≤ upto → level marks (arc g k).to ≤ upto → new k ≡ old k

-- the residual capacity of an entry depends on its arc alone
pub residual_same : (g : Graph) (old new : Flow) (e : ℕ) → new (place g e) ≡ old (place g e) → residual g new e ≡ residual g old e
residual_same g old new e same = elim (cases_lt e (length g.arcs)) [
  | inl forward ↦
      let here = place-forward g e forward in
      let carried : new e ≡ old e = omega (arith, same, ap new here, ap old here) in
      residual-forward g e forward new ∙ ap (spare (arc g e).capacity) carried ∙ sym (residual-forward g e forward old)
  | inr backward ↦
      let here = place-backward g e backward in
      omega (arith, residual-backward g e backward new, residual-backward g e backward old, same, ap new here, ap old here)
]

-- the ends of an entry's arc are the entry's
pub place_ends : (g : Graph) (e : ℕ) → (((arc g (place g e)).from ≡ tail g e) × ((arc g (place g e)).to ≡ head g e)) ⊎ (((arc g (place g e)).from ≡ head g e) × ((arc g (place g e)).to ≡ tail g e))
place_ends g e = elim (cases_lt e (length g.arcs)) [
  | inl forward ↦ inl (ap (λ (k : ℕ). (arc g k).from) (place-forward g e forward) ∙ sym (tail-forward g e forward), ap (λ (k : ℕ). (arc g k).to) (place-forward g e forward) ∙ sym (head-forward g e forward))
  | inr backward ↦ inr (ap (λ (k : ℕ). (arc g k).from) (place-backward g e backward) ∙ sym (head-backward g e backward), ap (λ (k : ℕ). (arc g k).to) (place-backward g e backward) ∙ sym (tail-backward g e backward))
]

-- an entry between levels that are untouched has an untouched arc
pub untouched_at : (g : Graph) (marks : List Mark) (old new : Flow) (upto e : ℕ) → IsUntouched g marks old new upto → level marks (tail g e) ≤ upto → level marks (head g e) ≤ upto → new (place g e) ≡ old (place g e)
unfolding IsUntouched
untouched_at g marks old new upto e untouched from to = elim (place_ends g e) [
  | inl ends ↦ untouched (place g e) (omega (arith, ap (level marks) ends.0)) (omega (arith, ap (level marks) ends.1))
  | inr ends ↦ untouched (place g e) (omega (arith, ap (level marks) ends.0)) (omega (arith, ap (level marks) ends.1))
]

-- at the start all arcs are untouched
pub untouched_start : (g : Graph) (marks : List Mark) (f : Flow) (upto : ℕ) → IsUntouched g marks f f upto
unfolding IsUntouched
untouched_start g marks f upto = λ k from to. refl

-- after a push along an entry to a level, the arcs below that level are untouched
pub untouched_next : (g : Graph) (marks : List Mark) (old now new : Flow) (upto below e amount : ℕ) → IsUntouched g marks old now upto → IsPushed g now new e amount → level marks (head g e) ≡ upto → below < upto → IsUntouched g marks old new below
unfolding IsUntouched
untouched_next g marks old now new upto below e amount untouched pushed to less = λ k from_level to_level.
    let other : k ≢ place g e = λ same. absurd (elim (place_ends g e) [
      | inl ends ↦ omega (arith, ap (λ (j : ℕ). level marks (arc g j).to) same, ap (level marks) ends.1)
      | inr ends ↦ omega (arith, ap (λ (j : ℕ). level marks (arc g j).from) same, ap (level marks) ends.0)
    ]) in
    pushed.elsewhere k other ∙ untouched k (omega arith) (omega arith)

-- no arc carries more than it did and the amount
pub most_next : (g : Graph) (old now new : Flow) (e amount : ℕ) → IsPushed g now new e amount → now (place g e) ≡ old (place g e) → ((k : ℕ) → now k ≤ old k + amount) → (k : ℕ) → new k ≤ old k + amount
most_next g old now new e amount pushed same most k = elim (cases_eq k (place g e)) [
  | inl at ↦ omega (arith, ap new at, ap old at, pushed.most, same)
  | inr other ↦ omega (arith, pushed.elsewhere k other, most k)
]

-- a balanced flow is balanced with an amount at the sink
pub balanced_start : (g : Graph) (source sink : ℕ) (f : Flow) (value amount : ℕ) → IsBalanced g source sink f value → IsBalancedAt g source sink f value sink amount
balanced_start g source sink f value amount balanced n = omega (arith, balanced n, cond-plus (eqb sink n) value amount (value + amount) refl)

-- a push takes the amount from the node that an entry leads to back to the node that it leaves
pub balanced_next : (g : Graph) (source sink : ℕ) (now new : Flow) (value at e amount : ℕ) → IsPushed g now new e amount → head g e ≡ at → IsBalancedAt g source sink now value at amount → IsBalancedAt g source sink new value (tail g e) amount
balanced_next g source sink now new value at e amount pushed leads balanced n =
    omega (arith, pushed.moves n, balanced n, ap (λ (m : ℕ). cond (eqb m n) amount 0) leads)

-- once the amount has come back to the source, the value is greater by it
pub balanced_end : (g : Graph) (source sink : ℕ) (f : Flow) (value amount : ℕ) → IsBalancedAt g source sink f value source amount → IsBalanced g source sink f (value + amount)
balanced_end g source sink f value amount balanced n = omega (arith, balanced n, cond-plus (eqb source n) value amount (value + amount) refl)

-- a balanced flow within the capacities is a flow of its value
pub balanced_flow : (g : Graph) (source sink : ℕ) (f : Flow) (value : ℕ) → source ≢ sink → IsWithin g f → IsBalanced g source sink f value → IsFlow g source sink f value
balanced_flow g source sink f value ends within balanced = record {
  within = within;
  conserved = λ n not_source not_sink.
      omega (arith, balanced n, cond-false {A = ℕ} (eqb source n) value 0 (ne_eqb source n (λ e. not_source (sym e))), cond-false {A = ℕ} (eqb sink n) value 0 (ne_eqb sink n (λ e. not_sink (sym e))));
  has_value =
      omega (arith, balanced source, cond-true {A = ℕ} (eqb source source) value 0 (eq-eqb source source refl), cond-false {A = ℕ} (eqb sink source) value 0 (ne_eqb sink source (λ e. ends (sym e))));
}

-- the path to the sink has been followed back as far as a node, the amount was moved along it, and the rest of the path
-- could carry the amount before that
pub record IsFollowed (g : Graph) (marks : List Mark) (old now : Flow) (source at amount : ℕ) : Type 0 where
  pub marked : HasMark marks at
  pub path : HasPath g old marks source amount at
  pub within : IsWithin g now
  pub most : (k : ℕ) → now k ≤ old k + amount
  pub untouched : IsUntouched g marks old now (level marks at)

-- the entry by which a node was reached can carry the amount, and its arc is untouched
pub record IsReady (g : Graph) (marks : List Mark) (old now : Flow) (source at e amount : ℕ) : Type 0 where
  pub known : e < entries g
  pub leads : head g e ≡ at
  pub fits : amount ≤ residual g now e
  pub same : now (place g e) ≡ old (place g e)
  pub below : level marks (tail g e) < level marks at
  pub marked : HasMark marks (tail g e)
  pub path : HasPath g old marks source amount (tail g e)

-- as far as another node than the source, the entry by which that was reached is ready
pub followed_ready : (g : Graph) (marks : List Mark) (old now : Flow) (source at e amount : ℕ) → at ≢ source → IsFollowed g marks old now source at amount → e ≡ (mark marks at).via → IsReady g marks old now source at e amount
followed_ready g marks old now source at e amount inner followed via =
    let back = path_back g old marks source amount at inner followed.path in
    let reached = back.0 in
    let tail_is = ap (λ (d : ℕ). mark marks (tail g d)) via in
    let leads : head g e ≡ at = ap (head g) via ∙ reached.leads in
    let below : level marks (tail g e) < level marks at = omega (arith, ap (λ (m : Mark). m.level) tail_is, reached.above) in
    let same = untouched_at g marks old now (level marks at) e followed.untouched (omega arith) (omega (arith, ap (level marks) leads)) in
    record {
      known = omega (arith, reached.known);
      leads = leads;
      fits = omega (arith, reached.fits, ap (residual g old) via, residual_same g old now e same);
      same = same;
      below = below;
      marked = omega (arith, ap (λ (m : Mark). m.level) tail_is, reached.reached);
      path = subst (λ (n : ℕ). HasPath g old marks source amount n) (sym (ap (tail g) via)) back.1;
    }

-- a push along a ready entry follows the path one node further
pub followed_next : (g : Graph) (marks : List Mark) (old now new : Flow) (source at e from amount : ℕ) → IsFollowed g marks old now source at amount → IsReady g marks old now source at e amount → IsPushed g now new e amount → from ≡ tail g e → IsFollowed g marks old new source from amount
followed_next g marks old now new source at e from amount followed ready pushed leaves =
    let from_level = ap (level marks) leaves in
    record {
      marked = omega (arith, ready.marked, from_level);
      path = subst (λ (n : ℕ). HasPath g old marks source amount n) (sym leaves) ready.path;
      within = pushed.within followed.within;
      most = most_next g old now new e amount pushed ready.same followed.most;
      untouched = untouched_next g marks old now new (level marks at) (level marks from) e amount followed.untouched pushed (ap (level marks) ready.leads) (omega (arith, ready.below, from_level));
    }

-- what augmentations have made is a flow
pub augmented_flow : (g : Graph) (source sink : ℕ) (f : Flow) (value : ℕ) → source ≢ sink → IsAugmented g source sink f value → IsFlow g source sink f value
augmented_flow g source sink f value ends augmented = balanced_flow g source sink f value ends augmented.within augmented.balanced

-- and its value is bounded
pub augmented_small : (g : Graph) (source sink : ℕ) (f : Flow) (value : ℕ) → source ≢ sink → IsBounded g source sink → IsAugmented g source sink f value → value ≤ MAX_VALUE
augmented_small g source sink f value ends bounded augmented = bounded f value (augmented_flow g source sink f value ends augmented)

-- no arc of it carries more than that bound
pub arcs_small : (g : Graph) (source sink : ℕ) (f : Flow) (value : ℕ) → source ≢ sink → IsBounded g source sink → IsAugmented g source sink f value → (k : ℕ) → f k ≤ MAX_VALUE
arcs_small g source sink f value ends bounded augmented k = omega (arith, augmented.most k, augmented_small g source sink f value ends bounded augmented)
