-- A push along a residual entry.
use Rattle.std.proofs.Common.{◌≡◌, ◌≢◌, ℕ, ◌+◌, ◌-◌, ◌<◌, ◌≤◌, cond, eqb, Bool, true, false, Some, length, ap, sym, ◌∙◌, refl, arith, inl, inr, subst}
use Rattle.std.proofs.lemmas.Bool.{cases_eq}
use Rattle.mm_flow.specs.declared.arc.Arc.{Arc}
use Rattle.mm_flow.specs.Graph.{Graph, arc}
use Rattle.mm_flow.specs.Flow.{Flow, entering, leaving}
use Rattle.mm_flow.specs.Residual.{entries, place, residual, IsPushed}
use Rattle.mm_base.proofs.RangeSums.{sum_by_range_changed}
use Rattle.mm_flow.proofs.Sides.{entering-sum_by, leaving-sum_by}
use Rattle.mm_flow.proofs.Entries.{place-forward, place-backward, tail-forward, tail-backward, head-forward, head-backward, forward_within}

module _ (g : Graph) (old new : Flow) (i : ℕ) (known : i < length g.arcs) (elsewhere : (k : ℕ) → k ≢ i → new k ≡ old k) where
  -- what enters a node changes by what one arc carries
  entering-changed : (n : ℕ) → entering g new n + cond (eqb (arc g i).to n) (old i) 0 ≡ entering g old n + cond (eqb (arc g i).to n) (new i) 0
  entering-changed n =
      omega (arith, entering-sum_by g new n, entering-sum_by g old n, sum_by_range_changed (λ k. cond (eqb (arc g k).to n) (old k) 0) (λ k. cond (eqb (arc g k).to n) (new k) 0) 0 (length g.arcs) i (omega arith) (omega arith) (λ k _ _ ne. ap (λ x. cond (eqb (arc g k).to n) x 0) (elsewhere k ne)))

  -- what leaves a node changes by what one arc carries
  leaving-changed : (n : ℕ) → leaving g new n + cond (eqb (arc g i).from n) (old i) 0 ≡ leaving g old n + cond (eqb (arc g i).from n) (new i) 0
  leaving-changed n =
      omega (arith, leaving-sum_by g new n, leaving-sum_by g old n, sum_by_range_changed (λ k. cond (eqb (arc g k).from n) (old k) 0) (λ k. cond (eqb (arc g k).from n) (new k) 0) 0 (length g.arcs) i (omega arith) (omega arith) (λ k _ _ ne. ap (λ x. cond (eqb (arc g k).from n) x 0) (elsewhere k ne)))

-- a choice of a sum
pub cond-plus : (b : Bool) (x y z : ℕ) → x + y ≡ z → cond b x 0 + cond b y 0 ≡ cond b z 0
cond-plus true x y z e = e
cond-plus false x y z e = refl

-- more on an arc forward
pub pushed_forward : (g : Graph) (old new : Flow) (e amount : ℕ) → e < length g.arcs → amount ≤ residual g old e → ((k : ℕ) → k ≢ e → new k ≡ old k) → new e ≡ old e + amount → IsPushed g old new e amount
pushed_forward g old new e amount forward fits elsewhere more =
    let here = place-forward g e forward in
    record {
      within = λ within k b some. elim (cases_eq k e) [
        | inl same ↦ omega (arith, ap new same, more, forward_within g old e amount b forward fits within (subst (λ x. (arc g x).capacity ≡ Some b) same some))
        | inr other ↦ omega (arith, elsewhere k other, within k b some)
      ];
      moves = λ n. rw (tail-forward g e forward, head-forward g e forward)
          (omega (arith, entering-changed g old new e forward elsewhere n, leaving-changed g old new e forward elsewhere n, cond-plus (eqb (arc g e).from n) (old e) amount (new e) (sym more), cond-plus (eqb (arc g e).to n) (old e) amount (new e) (sym more)));
      elsewhere = λ k other. elsewhere k (λ same. other (same ∙ sym here));
      most = omega (arith, ap new here, ap old here, more);
      kept = λ k _. elim (cases_eq k e) [
        | inl same ↦ omega (arith, ap new same, ap old same, more)
        | inr other ↦ omega (arith, elsewhere k other)
      ];
    }

-- less on an arc backward
pub pushed_backward : (g : Graph) (old new : Flow) (e i amount : ℕ) → i ≡ e - length g.arcs → length g.arcs ≤ e → e < entries g → ((k : ℕ) → k ≢ i → new k ≡ old k) → new i + amount ≡ old i → IsPushed g old new e amount
pushed_backward g old new e i amount at backward known elsewhere less =
    let here : place g e ≡ i = place-backward g e backward ∙ sym at in
    let arc_at : arc g (e - length g.arcs) ≡ arc g i = ap (arc g) (sym at) in
    let i_known : i < length g.arcs = omega arith in
    record {
      within = λ within k b some. elim (cases_eq k i) [
        | inl same ↦ omega (arith, ap new same, ap old same, less, within k b some)
        | inr other ↦ omega (arith, elsewhere k other, within k b some)
      ];
      moves = λ n. rw (tail-backward g e backward, head-backward g e backward, arc_at)
          (omega (arith, entering-changed g old new i i_known elsewhere n, leaving-changed g old new i i_known elsewhere n, cond-plus (eqb (arc g i).from n) (new i) amount (old i) less, cond-plus (eqb (arc g i).to n) (new i) amount (old i) less));
      elsewhere = λ k other. elsewhere k (λ same. other (same ∙ sym here));
      most = omega (arith, ap new here, ap old here, less);
      kept = λ k from. omega (arith, elsewhere k (λ same. from (ap (λ (j : ℕ). (arc g j).from) same ∙ ap (λ (a : Arc). a.from) (sym arc_at) ∙ sym (head-backward g e backward))));
    }
