-- Certificates that show what the first stores lose.
use Rattle.std.proofs.Common.{◌≡◌, ℕ, zero, suc, ◌+◌, ◌≤◌, Option, Some, None, List, [], ◌∷◌, length, pos}
use Rattle.std.proofs.Common.{refl, ◌∙◌, subst, inl, inr, arith, add-one}
use Rattle.std.proofs.lemmas.Bool.{cases_lt}
use Rattle.std.proofs.lemmas.Int.{ints}
use Rattle.std.proofs.lemmas.List.{get_or-take, length-take, get_or_append_left, get_or_push, length_push}
use Rattle.mm_problem.specs.Dumping.{Dumping}
use Rattle.mm_plan.specs.Table.{amount, HasShape}
use Rattle.mm_plan.specs.Volumes.{Amounts, loss, first_loss}
use Rattle.mm_plan.specs.Fit.{Fits}
use Rattle.mm_plan.specs.Least.{IsLeast, IsLeastInOrder}
use Rattle.std.specs.Prelude.{IfSome}
use Rattle.mm_plan.specs.Sheet.{SheetRows, CertificateRows, AreFirsts}
use Rattle.mm_cut.specs.Firsts.{ShowsFirst, ShowFirsts}
use Rattle.mm_cut.specs.Verdicts.{IsVerdictWith}
use Rattle.mm_cut.specs.declared.verdict.Verdict.TheVariants.{Least, LeastInOrder}
use Rattle.mm_cut.proofs.Duality.{first_cuts_bound_losses}
use Rattle.mm_cut.proofs.Prefixes.{Grows}

module _ (q : Dumping) (x : Amounts) where
  -- the certificates that show what the first stores lose, each of one store more
  pub firsts_grow : Grows (ShowFirsts q x) (λ cs c. ShowsFirst (length cs + 1) q x c)
  firsts_grow = record {
    front = λ n cs show k c below.
        rw (get_or-take n cs k c (omega (arith, length-take n cs))) (show k c (omega (arith, length-take n cs)));
    more = λ cs c show here k d below. elim (cases_lt k (length cs)) [
      | inl before ↦ rw (get_or_append_left cs (c ∷ []) d k before) (show k d before)
      | inr past ↦
          let last : k ≡ length cs = omega (arith, past, length_push cs c) in
          rw (last, get_or_push cs c d (length cs) refl) here
    ];
    last = λ cs c show.
        rw (get_or_push cs c c (length cs) refl) at (show (length cs) c (omega (arith, length_push cs c)));
  }

  -- no plan loses less of the first stores of a certificate that shows what they lose
  first_least : (k : ℕ) (c : CertificateRows) → ShowsFirst k q x c → (y : Amounts) → Fits q y
      → first_loss k q x ≤ first_loss k q y
  first_least k c shows y fits = omega (arith, ints, first_cuts_bound_losses k q y c.cut c.by_channels fits shows.cut)

  -- where of all stores but the last there is such a certificate, a plan that loses least does so in their order
  pub IsLeastInOrder-from_firsts : (cs : List CertificateRows) → length cs + 1 ≡ length q.rows → IsLeast q x
      → ShowFirsts q x cs → IsLeastInOrder q x
  IsLeastInOrder-from_firsts cs all is show = record { fits = is.fits; least = of_first }
    where
      of_first : (k : ℕ) → k ≤ length q.rows → (y : Amounts) → Fits q y → first_loss k q x ≤ first_loss k q y
      of_first zero few y fits = omega arith
      of_first (suc k) few y fits = elim (cases_lt k (length cs)) [
        | inl below ↦
            let none : CertificateRows = record { loss = 0; cut = []; by_channels = []; bound = pos 0 } in
            subst (λ n. first_loss n q x ≤ first_loss n q y) (add-one k)
            (first_least (k + 1) _ (show k none below) y fits)
        | inr past ↦
            let whole : length q.rows ≡ suc k = omega (arith, past) in
            subst (λ n. first_loss n q x ≤ first_loss n q y) whole (is.least y fits)
      ]

-- what is said by `Least`
pub least_with : (q : Dumping) (s : SheetRows) (firsts : Option (List CertificateRows)) (n : ℕ)
    → IsVerdictWith q s firsts (Least n) → IsLeast q (amount s.plan) × (n ≡ loss q (amount s.plan))
least_with q s None n is = (is.3, is.1 ∙ is.0.plan.loss)
least_with q s (Some cs) n is = absurd is

-- and by `LeastInOrder`
pub in_order_with : (q : Dumping) (s : SheetRows) (firsts : Option (List CertificateRows)) (n : ℕ)
    → IsVerdictWith q s firsts (LeastInOrder n) → IsLeastInOrder q (amount s.plan) × (n ≡ loss q (amount s.plan))
in_order_with q s None n is = absurd is
in_order_with q s (Some cs) n is = (is.2, is.0.1 ∙ is.0.0.plan.loss)

-- a sheet for the problem has certificates of all stores but the last
pub all_but_last : (q : Dumping) (s : SheetRows) (firsts : Option (List CertificateRows)) (cs : List CertificateRows)
    → HasShape q s.plan → s.plan.stores ≡ length s.stores → IfSome firsts (AreFirsts (length s.stores))
    → firsts ≡ Some cs → length cs + 1 ≡ length q.rows
all_but_last q s firsts cs shape stores are is =
    let these : IfSome (Some cs) (AreFirsts (length s.stores)) = rw is at are in
    omega (arith, these.count, shape.stores, stores)
