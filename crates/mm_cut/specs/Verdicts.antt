-- What the verdicts say of a plan, a cut, and the loss and bound that are printed beside them.
use Rattle.std.specs.Prelude.{◌≡◌, ◌≢◌, ℕ, List, ℤ, pos, Option, Some, None}
use Rattle.mm_problem.specs.Dumping.{Dumping}
use Rattle.mm_plan.specs.Volumes.{Amounts, loss}
use Rattle.mm_plan.specs.Fit.{Fits, IsFirstMisfit}
use Rattle.mm_plan.specs.Least.{IsLeast, IsLeastInOrder}
use Rattle.mm_plan.specs.Table.{amount}
use Rattle.mm_plan.specs.Sheet.{SheetRows, CertificateRows}
use Rattle.mm_plan.specs.declared.stretch.Stretch.{Stretch}
use Rattle.mm_cut.specs.Stretches.{AreStretches}
use Rattle.mm_cut.specs.Counts.{AreCounted}
use Rattle.mm_cut.specs.Cuts.{IsCut, bound}
use Rattle.mm_cut.specs.FirstBad.{IsFirstBad}
use Rattle.mm_cut.specs.Firsts.{ShowFirsts}
use Rattle.mm_cut.specs.declared.verdict.Verdict.{Verdict}
use Rattle.mm_cut.specs.declared.verdict.Verdict.TheVariants.{DoesNotFit, LossIs, BadStretch, BadCount, BoundIs, NotShown, FirstNotShown, Least, LeastInOrder}

-- the plan fits, and the printed loss is its loss
pub record LossIsRight (q : Dumping) (x : Amounts) (l : ℕ) : Type 0 where
  pub fits : Fits q x
  pub loss : l ≡ loss q x

-- besides, the cut is one, and the printed bound is its bound
pub record BoundIsRight (q : Dumping) (x : Amounts) (ds : List Stretch) (ts : List ℕ) (l : ℕ) (b : ℤ) : Type 0 where
  pub plan : LossIsRight q x l
  pub cut : IsCut q ds ts
  pub bound : b ≡ bound q ds ts

-- what each verdict says of a plan and one cut, where l and b are the printed loss and bound
abbrev pub IsVerdict : Dumping → Amounts → List Stretch → List ℕ → ℕ → ℤ → Verdict → Type 0
IsVerdict q x ds ts l b (DoesNotFit t) = IsFirstMisfit q x t
IsVerdict q x ds ts l b (LossIs n) = Fits q x × (n ≡ loss q x) × (n ≢ l)
IsVerdict q x ds ts l b (BadStretch k) = LossIsRight q x l × IsFirstBad (AreStretches q) ds k
IsVerdict q x ds ts l b (BadCount k) = LossIsRight q x l × AreStretches q ds × IsFirstBad (AreCounted q ds) ts k
IsVerdict q x ds ts l b (BoundIs m) = LossIsRight q x l × IsCut q ds ts × (m ≡ bound q ds ts) × (m ≢ b)
IsVerdict q x ds ts l b (NotShown n m) = BoundIsRight q x ds ts l b × (n ≡ l) × (m ≡ b) × (pos n ≢ m)
IsVerdict q x ds ts l b (Least n) = BoundIsRight q x ds ts l b × (n ≡ l) × (pos n ≡ b) × IsLeast q x
IsVerdict q x ds ts l b (FirstNotShown k) = ⊥
IsVerdict q x ds ts l b (LeastInOrder n) = ⊥

-- the verdicts exclude one another
abbrev pub VerdictsExclude : Type 0
VerdictsExclude =
    (q : Dumping) (x : Amounts) (ds : List Stretch) (ts : List ℕ) (l : ℕ) (b : ℤ) (v w : Verdict) → IsVerdict q x ds ts l b v → IsVerdict q x ds ts l b w → v ≡ w

-- ---- sheets

-- what a verdict says of a sheet's plan and of the cut of all stores
abbrev pub IsOwnVerdict : Dumping → SheetRows → Verdict → Type 0
IsOwnVerdict q s v = IsVerdict q (amount s.plan) s.cut s.by_channels s.loss s.bound v

-- what each verdict says where there are these certificates of the first stores: where the cut of all stores shows that the plan loses least,
-- the first certificate is told that does not show its loss, from 1
abbrev pub IsVerdictWith : Dumping → SheetRows → Option (List CertificateRows) → Verdict → Type 0
IsVerdictWith q s None v = IsOwnVerdict q s v
IsVerdictWith q s (Some cs) (Least n) = ⊥
IsVerdictWith q s (Some cs) (FirstNotShown k) = IsOwnVerdict q s (Least s.loss) × IsFirstBad (ShowFirsts q (amount s.plan)) cs k
IsVerdictWith q s (Some cs) (LeastInOrder n) = IsOwnVerdict q s (Least n) × ShowFirsts q (amount s.plan) cs × IsLeastInOrder q (amount s.plan)
IsVerdictWith q s (Some cs) v = IsOwnVerdict q s v

-- what each verdict says of a sheet
abbrev pub IsSheetVerdict : Dumping → SheetRows → Verdict → Type 0
IsSheetVerdict q s v = IsVerdictWith q s s.firsts v

-- so do the verdicts on a sheet
abbrev pub SheetVerdictsExclude : Type 0
SheetVerdictsExclude = (q : Dumping) (s : SheetRows) (v w : Verdict) → IsSheetVerdict q s v → IsSheetVerdict q s w → v ≡ w
