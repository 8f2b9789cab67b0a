-- What the rest of a problem after a step of a plan says of plans with these first steps.
use Rattle.std.specs.Prelude.{◌≡◌, ℕ, ◌+◌, ◌-◌, ◌<◌, ◌≤◌, nat_le, if◌then◌else◌, length}
use Rattle.std.specs.List.{sum_by, range_with_len}
use Rattle.mm_problem.specs.Dumping.{Dumping, stores}
use Rattle.mm_plan.specs.Fit.{Fits}
use Rattle.mm_plan.specs.Least.{IsLeast}
use Rattle.mm_plan.specs.Volumes.{Amounts, lost, loss}
use Rattle.mm_rest.specs.Rests.{rest_after}

-- what all stores lose up to a step
abbrev pub loss_until : ℕ → Dumping → Amounts → ℕ
loss_until n q x = sum_by (λ s. sum_by (lost q x s) (range_with_len 1 n)) (stores q)

-- the amounts of the steps after a step, which count from 1 again
abbrev pub later : ℕ → Amounts → Amounts
later n x s t = x s (n + t)

-- the amounts of a plan up to a step, and then those of a plan for the steps after it
abbrev pub joined : ℕ → Amounts → Amounts → Amounts
joined n x z s t = if nat_le t n then x s t else z s (t - n)

-- the second plan dumps the same as the first from each store up to a step
abbrev pub SameUntil : Dumping → ℕ → Amounts → Amounts → Type 0
SameUntil q n x y = (s t : ℕ) → s < length q.rows → 1 ≤ t → t ≤ n → y s t ≡ x s t

-- a plan loses what it loses up to a step, and what its later amounts lose in the rest of the problem after that step
abbrev pub LossesAddUp : Type 0
LossesAddUp = (q : Dumping) (x : Amounts) (n : ℕ) → n ≤ length q.windows
    → loss q x ≡ loss_until n q x + loss (rest_after q x n) (later n x)

-- of the plans that fit, none with the same amounts up to the step loses fewer blocks
abbrev pub LosesLeastAfter : Dumping → ℕ → Amounts → Type 0
LosesLeastAfter q n x = (y : Amounts) → Fits q y → SameUntil q n x y → loss q x ≤ loss q y

-- a least plan for the rest after a step of a plan, joined to its amounts up to that step, loses fewest of all plans
-- with these
abbrev pub PlansAnew : Type 0
PlansAnew = (q : Dumping) (x z : Amounts) (n : ℕ) → n ≤ length q.windows → IsLeast (rest_after q x n) z
    → LosesLeastAfter q n (joined n x z)
