-- Filling a plan, one step after the other.
use Rattle.std.specs.Prelude.{◌≡◌, ◌≢◌, ℕ, ◌+◌, ◌<◌, ◌≤◌, List, length, slice_index, slice_index_or, min, Option, Some}
use Rattle.std.specs.Prelude.{None, option_map, ◌⊎◌}
use Rattle.std.specs.List.{sum_by}
use Rattle.mm_base.specs.declared.limits.TheConstants.{CHANNELS}
use Rattle.mm_problem.specs.Dumping.{Dumping, size, stores, stores_of, window, limit, channel}
use Rattle.mm_plan.specs.Volumes.{Amounts, held_by, written, left}
use Rattle.mm_plan.specs.Fit.{in_step, FitsAt}
use Rattle.mm_plan.specs.Filled.{IsWindowUsed, IsLimitUsed}

-- in each other step both plans have the same amounts
abbrev pub SameElsewhere : Dumping → Amounts → Amounts → ℕ → Type 0
SameElsewhere q x y t = (s u : ℕ) → s < length q.rows → 1 ≤ u → u ≤ length q.windows → u ≢ t → y s u ≡ x s u

-- the amounts of the step by the second plan are those by the first, lowered to what is written
abbrev pub IsLoweredAt : Dumping → Amounts → Amounts → ℕ → Type 0
IsLoweredAt q x y t = (s : ℕ) → s < length q.rows → y s t ≡ min (x s t) (written q x s t)

-- what is left in each store when a step has ended
abbrev pub AreLeft : Dumping → Amounts → ℕ → List ℕ → Type 0
AreLeft q x t blocks = (s : ℕ) → s < length q.rows → slice_index blocks s ≡ left q x s t

-- what is to leave each store in a step and what stays are together what was written
abbrev pub AreSplit : Dumping → Amounts → ℕ → List ℕ → Type 0
AreSplit q x t blocks = (s : ℕ) → s < length q.rows → x s t + slice_index blocks s ≡ written q x s t

-- of what stays in each store, what is held as the step ends
abbrev pub AreHeld : Dumping → ℕ → List ℕ → List ℕ → Type 0
AreHeld q t stay held = (s : ℕ) → s < length q.rows
    → slice_index held s ≡ held_by q.come (size q s t) (slice_index stay s)

-- of the limit of each channel that has one, what is not used in the step
abbrev pub AreUnused : Dumping → Amounts → ℕ → List (Option ℕ) → Type 0
AreUnused q x t rests = (c : ℕ) → c < CHANNELS
    → limit q c t ≡ option_map (λ rest. sum_by (in_step x t) (stores_of q c) + rest) (slice_index_or rests c None)

-- what is not used in the step: of its window, and of the limits
pub record IsRest (q : Dumping) (x : Amounts) (t idle : ℕ) (rests : List (Option ℕ)) : Type 0 where
  pub windowed : sum_by (in_step x t) (stores q) + idle ≡ window q t
  pub limited : AreUnused q x t rests

-- by the second plan no amount of the step is smaller than by the first, and no window or limit is idle that a store
-- could use; blocks has what stays in each store
pub record IsStepFilled (q : Dumping) (x y : Amounts) (t : ℕ) (blocks : List ℕ) : Type 0 where
  pub others : SameElsewhere q x y t
  pub raised : (s : ℕ) → s < length q.rows → x s t ≤ y s t
  pub fits : FitsAt q y t
  pub split : AreSplit q y t blocks
  pub used : (s : ℕ) → s < length q.rows → 0 < slice_index blocks s
      → IsWindowUsed q y t ⊎ IsLimitUsed q y t (channel q s)

-- how many blocks more may leave a store, with what is not used of the window and of its channel's limit
abbrev pub room_in : ℕ → Option ℕ → ℕ
room_in idle None = idle
room_in idle (Some rest) = min idle rest
