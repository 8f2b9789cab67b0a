-- Which plans fit the pass windows and the limits of the channels.
use Rattle.std.specs.Prelude.{◌≡◌, ℕ, ◌+◌, ◌<◌, ◌≤◌, length, Some}
use Rattle.std.specs.List.{sum_by}
use Rattle.mm_problem.specs.Dumping.{Dumping, stores, stores_of, window, limit}
use Rattle.mm_plan.specs.Volumes.{Amounts}

-- what is to leave each store in a step
abbrev pub in_step : Amounts → ℕ → ℕ → ℕ
in_step x t s = x s t

-- no more is to leave the stores of a channel in the step than its limit there, where it has one
abbrev pub FitsLimit : Dumping → Amounts → ℕ → ℕ → Type 0
FitsLimit q x t c = (b : ℕ) → limit q c t ≡ Some b → sum_by (in_step x t) (stores_of q c) ≤ b

-- no more is to leave in the step than its window and the limits of the channels let through
pub record FitsAt (q : Dumping) (x : Amounts) (t : ℕ) : Type 0 where
  pub windowed : sum_by (in_step x t) (stores q) ≤ window q t
  pub limited : (c : ℕ) → FitsLimit q x t c

-- the plan fits at each step before this one
abbrev pub FitsBefore : Dumping → Amounts → ℕ → Type 0
FitsBefore q x n = (t : ℕ) → 1 ≤ t → t < n → FitsAt q x t

-- the plan fits at each step
abbrev pub Fits : Dumping → Amounts → Type 0
Fits q x = FitsBefore q x (length q.windows + 1)

-- the first step at which the plan does not fit
pub record IsFirstMisfit (q : Dumping) (x : Amounts) (t : ℕ) : Type 0 where
  pub first : 1 ≤ t
  pub last : t ≤ length q.windows
  pub before : FitsBefore q x t
  pub here : ¬ FitsAt q x t
