-- The verdicts exclude one another: each says how many of the tests are passed, and that the next one is not.
use Rattle.std.proofs.Common.{◌≡◌, ℕ, ◌<◌, Option, Some, None, List, ℤ, pos, sym, ap, ◌∙◌, arith}
use Rattle.mm_problem.specs.Dumping.{Dumping}
use Rattle.mm_plan.specs.Volumes.{Amounts}
use Rattle.mm_plan.specs.Fit.{Fits, IsFirstMisfit}
use Rattle.mm_plan.specs.declared.stretch.Stretch.{Stretch}
use Rattle.mm_cut.specs.Stretches.{AreStretches}
use Rattle.mm_cut.specs.Counts.{AreCounted}
use Rattle.mm_plan.specs.Table.{amount}
use Rattle.mm_plan.specs.Sheet.{SheetRows, CertificateRows}
use Rattle.mm_cut.specs.Verdicts.{LossIsRight, BoundIsRight, IsVerdict, VerdictsExclude, IsOwnVerdict, IsVerdictWith}
use Rattle.mm_cut.specs.Verdicts.{SheetVerdictsExclude}
use Rattle.mm_cut.proofs.ShownFirsts.{firsts_grow}
use Rattle.mm_cut.specs.declared.verdict.Verdict.{Verdict}
use Rattle.mm_cut.specs.declared.verdict.Verdict.TheVariants.{DoesNotFit, LossIs, BadStretch, BadCount, BoundIs}
use Rattle.mm_cut.specs.declared.verdict.Verdict.TheVariants.{NotShown, FirstNotShown, Least, LeastInOrder}
use Rattle.mm_cut.proofs.Prefixes.{neither_first, IsFirstBad-not_good, IsFirstBad-same, stretches_grow, counts_grow}

-- there is one first misfit at the most, and none where the plan fits
IsFirstMisfit-not_before : (q : Dumping) (x : Amounts) (t u : ℕ) → IsFirstMisfit q x t → IsFirstMisfit q x u → t < u → ⊥
IsFirstMisfit-not_before q x t u at_t at_u before = at_t.here (at_u.before t at_t.first before)

IsFirstMisfit-same : (q : Dumping) (x : Amounts) (t u : ℕ) → IsFirstMisfit q x t → IsFirstMisfit q x u → t ≡ u
IsFirstMisfit-same q x t u at_t at_u =
    neither_first t u (IsFirstMisfit-not_before q x t u at_t at_u) (IsFirstMisfit-not_before q x u t at_u at_t)

IsFirstMisfit-not_fits : (q : Dumping) (x : Amounts) (t : ℕ) → IsFirstMisfit q x t → ¬ Fits q x
IsFirstMisfit-not_fits q x t misfit fits = misfit.here (fits t misfit.first (omega (arith, misfit.last)))

-- how many of the tests a verdict says are passed
abbrev stage : Verdict → ℕ
stage (DoesNotFit t) = 0
stage (LossIs n) = 1
stage (BadStretch k) = 2
stage (BadCount k) = 3
stage (BoundIs m) = 4
stage (NotShown n m) = 5
stage (Least n) = 6
stage (FirstNotShown k) = 7
stage (LeastInOrder n) = 8

module _ (q : Dumping) (x : Amounts) (ds : List Stretch) (ts : List ℕ) (l : ℕ) (b : ℤ) where
  -- a wrong loss is not right
  other_loss : (n : ℕ) → IsVerdict q x ds ts l b (LossIs n) → ¬ LossIsRight q x l
  other_loss n wrong right = wrong.2 (wrong.1 ∙ sym right.loss)

  -- a wrong bound is not right
  other_bound : (m : ℤ) → IsVerdict q x ds ts l b (BoundIs m) → ¬ BoundIsRight q x ds ts l b
  other_bound m wrong right = wrong.3 (wrong.2 ∙ sym right.bound)

  not_stretches : (k : ℕ) → IsVerdict q x ds ts l b (BadStretch k) → ¬ AreStretches q ds
  not_stretches k bad = IsFirstBad-not_good (stretches_grow q) ds k bad.1

  not_counted : (k : ℕ) → IsVerdict q x ds ts l b (BadCount k) → ¬ AreCounted q ds ts
  not_counted k bad = IsFirstBad-not_good (counts_grow q ds) ts k bad.2

  -- a verdict that stops at an earlier test does not hold beside one that stops at a later test
  not_both : (v w : Verdict) → stage v < stage w → IsVerdict q x ds ts l b v → IsVerdict q x ds ts l b w → ⊥
  not_both (DoesNotFit t) (LossIs n) _ a c = IsFirstMisfit-not_fits q x t a c.0
  not_both (DoesNotFit t) (BadStretch k) _ a c = IsFirstMisfit-not_fits q x t a c.0.fits
  not_both (DoesNotFit t) (BadCount k) _ a c = IsFirstMisfit-not_fits q x t a c.0.fits
  not_both (DoesNotFit t) (BoundIs m) _ a c = IsFirstMisfit-not_fits q x t a c.0.fits
  not_both (DoesNotFit t) (NotShown n m) _ a c = IsFirstMisfit-not_fits q x t a c.0.plan.fits
  not_both (DoesNotFit t) (Least n) _ a c = IsFirstMisfit-not_fits q x t a c.0.plan.fits
  not_both (LossIs n) (BadStretch k) _ a c = other_loss n a c.0
  not_both (LossIs n) (BadCount k) _ a c = other_loss n a c.0
  not_both (LossIs n) (BoundIs m) _ a c = other_loss n a c.0
  not_both (LossIs n) (NotShown k m) _ a c = other_loss n a c.0.plan
  not_both (LossIs n) (Least k) _ a c = other_loss n a c.0.plan
  not_both (BadStretch k) (BadCount j) _ a c = not_stretches k a c.1
  not_both (BadStretch k) (BoundIs m) _ a c = not_stretches k a c.1.stretches
  not_both (BadStretch k) (NotShown n m) _ a c = not_stretches k a c.0.cut.stretches
  not_both (BadStretch k) (Least n) _ a c = not_stretches k a c.0.cut.stretches
  not_both (BadCount k) (BoundIs m) _ a c = not_counted k a c.1.counted
  not_both (BadCount k) (NotShown n m) _ a c = not_counted k a c.0.cut.counted
  not_both (BadCount k) (Least n) _ a c = not_counted k a c.0.cut.counted
  not_both (BoundIs m) (NotShown n j) _ a c = other_bound m a c.0
  not_both (BoundIs m) (Least n) _ a c = other_bound m a c.0
  not_both (NotShown n m) (Least k) _ a c = a.3 (ap pos (a.1 ∙ sym c.1) ∙ c.2 ∙ sym a.2)
  not_both v (FirstNotShown k) _ a c = absurd c
  not_both v (LeastInOrder n) _ a c = absurd c
  not_both (Least n) (Least k) earlier a c = absurd (omega arith)
  not_both v w earlier a c = absurd (omega arith)

  -- two verdicts that stop at one test say the same
  same_stage : (v w : Verdict) → stage v ≡ stage w → IsVerdict q x ds ts l b v → IsVerdict q x ds ts l b w → v ≡ w
  same_stage (DoesNotFit t) (DoesNotFit u) _ a c = ap DoesNotFit (IsFirstMisfit-same q x t u a c)
  same_stage (LossIs n) (LossIs m) _ a c = ap LossIs (a.1 ∙ sym c.1)
  same_stage (BadStretch k) (BadStretch j) _ a c = ap BadStretch (IsFirstBad-same (stretches_grow q) ds k j a.1 c.1)
  same_stage (BadCount k) (BadCount j) _ a c = ap BadCount (IsFirstBad-same (counts_grow q ds) ts k j a.2 c.2)
  same_stage (BoundIs m) (BoundIs j) _ a c = ap BoundIs (a.2 ∙ sym c.2)
  same_stage (NotShown n m) (NotShown k j) _ a c = cc (a.1, c.1, a.2, c.2)
  same_stage (Least n) (Least k) _ a c = ap Least (a.1 ∙ sym c.1)
  same_stage (FirstNotShown k) w _ a c = absurd a
  same_stage (LeastInOrder n) w _ a c = absurd a
  same_stage v w same a c = absurd (omega arith)

pub verdicts_exclude : VerdictsExclude
verdicts_exclude q x ds ts l b v w a c =
    let no_earlier = λ (before : stage v < stage w). not_both q x ds ts l b v w before a c in
    let no_later = λ (after : stage w < stage v). not_both q x ds ts l b w v after c a in
    same_stage q x ds ts l b v w (neither_first (stage v) (stage w) no_earlier no_later) a c

-- ---- sheets

-- two verdicts on a sheet say the same of its cut of all stores
own_exclude : (q : Dumping) (s : SheetRows) (v w : Verdict) → IsOwnVerdict q s v → IsOwnVerdict q s w → v ≡ w
own_exclude q s v w a c = verdicts_exclude q (amount s.plan) s.cut s.by_channels s.loss s.bound v w a c

module _ (q : Dumping) (s : SheetRows) (cs : List CertificateRows) where
  -- where a certificate does not show its loss, not each of them does
  not_shown : (k n : ℕ) → IsVerdictWith q s (Some cs) (FirstNotShown k)
      → IsVerdictWith q s (Some cs) (LeastInOrder n) → ⊥
  not_shown k n a c = IsFirstBad-not_good (firsts_grow q (amount s.plan)) cs k a.1 c.1

  -- with certificates of the first stores
  with_exclude : (v w : Verdict) → IsVerdictWith q s (Some cs) v → IsVerdictWith q s (Some cs) w → v ≡ w
  with_exclude (Least n) w a c = absurd a
  with_exclude v (Least n) a c = absurd c
  with_exclude (FirstNotShown k) (FirstNotShown j) a c =
      ap FirstNotShown (IsFirstBad-same (firsts_grow q (amount s.plan)) cs k j a.1 c.1)
  with_exclude (FirstNotShown k) (LeastInOrder n) a c = absurd (not_shown k n a c)
  with_exclude (FirstNotShown k) w a c = cc (own_exclude q s (Least s.loss) w a.0 c)
  with_exclude (LeastInOrder n) (FirstNotShown k) a c = absurd (not_shown k n c a)
  with_exclude (LeastInOrder n) (LeastInOrder m) a c = cc
  with_exclude (LeastInOrder n) w a c = cc (own_exclude q s (Least n) w a.0 c)
  with_exclude v (FirstNotShown k) a c = cc (own_exclude q s v (Least s.loss) a c.0)
  with_exclude v (LeastInOrder n) a c = cc (own_exclude q s v (Least n) a c.0)
  with_exclude v w a c = own_exclude q s v w a c

either_exclude : (q : Dumping) (s : SheetRows) (firsts : Option (List CertificateRows)) (v w : Verdict)
    → IsVerdictWith q s firsts v → IsVerdictWith q s firsts w → v ≡ w
either_exclude q s None v w a c = own_exclude q s v w a c
either_exclude q s (Some cs) v w a c = with_exclude q s cs v w a c

pub sheet_verdicts_exclude : SheetVerdictsExclude
sheet_verdicts_exclude q s v w a c = either_exclude q s s.firsts v w a c
