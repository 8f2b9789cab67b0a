-- A verdict on a plan and a cut under other names for what is the same.
use Rattle.std.proofs.Common.{◌≡◌, ℕ, ℤ, List, subst}
use Rattle.mm_problem.specs.Dumping.{Dumping}
use Rattle.mm_plan.specs.Table.{Table, amount}
use Rattle.mm_plan.specs.declared.stretch.Stretch.{Stretch}
use Rattle.mm_cut.specs.Verdicts.{IsVerdict}
use Rattle.mm_cut.specs.declared.verdict.Verdict.{Verdict}

-- each part is written out, so that what a verdict says need not be computed
pub same_verdict : (q : Dumping) (v : Verdict) (p r : Table) (cut ds : List Stretch) (counts ts : List ℕ) (n l : ℕ) (m b : ℤ) → p ≡ r → cut ≡ ds → counts ≡ ts → n ≡ l → m ≡ b → IsVerdict q (amount p) cut counts n m v → IsVerdict q (amount r) ds ts l b v
same_verdict q v p r cut ds counts ts n l m b plan stretches listed loss bound is =
    subst (λ x. IsVerdict q (amount x) ds ts l b v) plan
    (subst (λ x. IsVerdict q (amount p) x ts l b v) stretches
    (subst (λ x. IsVerdict q (amount p) cut x l b v) listed
    (subst (λ x. IsVerdict q (amount p) cut counts x b v) loss
    (subst (λ x. IsVerdict q (amount p) cut counts n x v) bound is))))
