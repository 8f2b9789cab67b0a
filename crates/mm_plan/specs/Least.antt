-- Plans that lose least.
use Rattle.std.specs.Prelude.{ℕ, ◌≤◌, length}
use Rattle.mm_problem.specs.Dumping.{Dumping}
use Rattle.mm_plan.specs.Volumes.{Amounts, loss, first_loss}
use Rattle.mm_plan.specs.Fit.{Fits}

-- the plan fits, and no plan that fits loses less
pub record IsLeast (q : Dumping) (x : Amounts) : Type 0 where
  pub fits : Fits q x
  pub least : (y : Amounts) → Fits q y → loss q x ≤ loss q y

-- the plan fits, and no plan that fits loses less of the first stores, however many of them are counted
pub record IsLeastInOrder (q : Dumping) (x : Amounts) : Type 0 where
  pub fits : Fits q x
  pub least : (k : ℕ) → k ≤ length q.rows → (y : Amounts) → Fits q y → first_loss k q x ≤ first_loss k q y
