-- Plans that leave no window idle.
use Rattle.std.specs.Prelude.{◌≡◌, ℕ, ◌<◌, ◌≤◌, length, Some, ◌⊎◌}
use Rattle.std.specs.List.{sum_by}
use Rattle.mm_problem.specs.Dumping.{Dumping, stores, stores_of, window, limit, channel}
use Rattle.mm_plan.specs.Volumes.{Amounts, left, written, stays, lost}
use Rattle.mm_plan.specs.Fit.{in_step}

-- the amounts of a step add up to its window
abbrev pub IsWindowUsed : Dumping → Amounts → ℕ → Type 0
IsWindowUsed q x t = sum_by (in_step x t) (stores q) ≡ window q t

-- those of a channel add up to its limit in the step
abbrev pub IsLimitUsed : Dumping → Amounts → ℕ → ℕ → Type 0
IsLimitUsed q x t c = limit q c t ≡ Some (sum_by (in_step x t) (stores_of q c))

-- nothing is asked for that is not there, and nothing stays that could leave
pub record IsFilledAt (q : Dumping) (x : Amounts) (t : ℕ) : Type 0 where
  pub held : (s : ℕ) → s < length q.rows → x s t ≤ written q x s t
  pub used : (s : ℕ) → s < length q.rows → 0 < stays q x s t → IsWindowUsed q x t ⊎ IsLimitUsed q x t (channel q s)

abbrev pub IsFilled : Dumping → Amounts → Type 0
IsFilled q x = (t : ℕ) → 1 ≤ t → t ≤ length q.windows → IsFilledAt q x t

-- by the second plan no store has more left in any step, or loses more, than by the first
pub record IsNowhereWorse (q : Dumping) (x y : Amounts) : Type 0 where
  pub volumes : (s t : ℕ) → s < length q.rows → 1 ≤ t → t ≤ length q.windows → left q y s t ≤ left q x s t
  pub losses : (s t : ℕ) → s < length q.rows → 1 ≤ t → t ≤ length q.windows → lost q y s t ≤ lost q x s t
