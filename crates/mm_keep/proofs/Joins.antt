-- One more amount of a joined plan.
use Rattle.std.proofs.Common.{◌≡◌, ℕ, ◌+◌, ◌<◌, ◌≤◌, length, sym, subst, ◌∙◌, inl, inr, arith}
use Rattle.std.proofs.lemmas.Bool.{cases_eq}
use Rattle.mm_problem.specs.Dumping.{Dumping}
use Rattle.mm_plan.specs.Table.{Table, amount, HasShape, ChangesAmount}
use Rattle.mm_plan.specs.Volumes.{Amounts}
use Rattle.mm_keep.specs.Joining.{AreJoinedTo, joined_amounts}

-- one more amount of a step
pub joined_more : (q : Dumping) (last : ℕ) (x z old new : Table) (t s n : ℕ) → HasShape q old → 1 ≤ t
    → t ≤ length q.windows → s < length q.rows → AreJoinedTo q last x z (amount old) t s
    → ChangesAmount old new s t n → n ≡ joined_amounts last x z s t → AreJoinedTo q last x z (amount new) t (s + 1)
joined_more q last x z old new t s n shape first within below so_far change is = record {
  earlier = λ r u inside from before. change.elsewhere r u
      (record { store = omega (arith, shape.stores); first = from; last = omega (arith, shape.steps) })
      (λ _ same. omega (arith, same)) ∙ so_far.earlier r u inside from before;
  here = λ r more. elim (cases_eq r s) [
    | inl same ↦ subst (λ k. amount new k t ≡ joined_amounts last x z k t) (sym same) (change.here ∙ is)
    | inr other ↦ change.elsewhere r t
        (record { store = omega (arith, shape.stores); first = first; last = omega (arith, shape.steps) })
        (λ same. absurd (other same)) ∙ so_far.here r (omega (arith, other))
  ];
}

-- all amounts of a step
pub joined_step : (q : Dumping) (last : ℕ) (x z : Table) (y : Amounts) (t n : ℕ) → length q.rows ≤ n
    → AreJoinedTo q last x z y t n → AreJoinedTo q last x z y (t + 1) 0
joined_step q last x z y t n all so_far = record {
  earlier = λ s u inside from before. elim (cases_eq u t) [
    | inl same ↦ subst (λ k. y s k ≡ joined_amounts last x z s k) (sym same) (so_far.here s (omega arith))
    | inr other ↦ so_far.earlier s u inside from (omega (arith, other))
  ];
  here = λ s none. absurd (omega arith);
}
