-- Certificates of the first stores.
use Rattle.std.specs.Prelude.{◌≡◌, ℕ, ◌+◌, ◌<◌, List, length, slice_index_or, pos}
use Rattle.mm_problem.specs.Dumping.{Dumping}
use Rattle.mm_plan.specs.Volumes.{Amounts, first_loss}
use Rattle.mm_plan.specs.Sheet.{CertificateRows}
use Rattle.mm_cut.specs.Cuts.{IsFirstCut, bound}

-- the certificate says what the first k stores lose by a plan, and a cut of them with its bound, and both are one number: so no plan that fits
-- loses less of them
pub record ShowsFirst (k : ℕ) (q : Dumping) (x : Amounts) (c : CertificateRows) : Type 0 where
  pub loss : c.loss ≡ first_loss k q x
  pub cut : IsFirstCut k q c.cut c.by_channels
  pub bound : c.bound ≡ bound q c.cut c.by_channels
  pub tight : c.bound ≡ pos c.loss

-- the certificates are of the first store, of the first two and so on, and each shows what those lose
abbrev pub ShowFirsts : Dumping → Amounts → List CertificateRows → Type 0
ShowFirsts q x cs = (k : ℕ) (c : CertificateRows) → k < length cs → ShowsFirst (k + 1) q x (slice_index_or cs k c)
