-- What comes as it was forecast; what comes beyond the forecast, and what it costs.
use Rattle.std.specs.Prelude.{◌≡◌, ℕ, ◌+◌, ◌-◌, ◌<◌, ◌≤◌, List, length, take}
use Rattle.std.specs.List.{range_with_len, sum_by}
use Rattle.mm_plan.specs.Volumes.{first_loss, store_loss}
use Rattle.mm_report.specs.declared.counts.StepCounts.{StepCounts}
use Rattle.mm_carry.specs.Words.{arrivals, stores, steps, Amounts, Fits, Held, loss}
use Rattle.mm_carry.specs.AsPlanned.{AtEach}
use Rattle.mm_carry.specs.RunInput.{RunInput, as_came, came, store_state}

-- what came is what was forecast, in each store and step
abbrev pub AsForecast : RunInput → Type 0
AsForecast m = AtEach (length m.problem.rows) (length m.problem.windows) (λ s t. came m s t ≡ arrivals m.problem s t)

-- how many packets more than the forecast says come to a store in a step; none where no more come
abbrev pub more_came : RunInput → ℕ → ℕ → ℕ
more_came m s t = came m s t - arrivals m.problem s t

-- how many packets come to a store beyond the forecast, over all steps
abbrev pub beyond_at : RunInput → ℕ → ℕ
beyond_at m s = sum_by (more_came m s) (steps m.problem)

-- how many packets come beyond the forecast, over all stores and steps
abbrev pub beyond_forecast : RunInput → ℕ
beyond_forecast m = sum_by (beyond_at m) (stores m.problem)

-- how many packets fewer than the forecast says come, over all stores and steps
abbrev pub short_of_forecast : RunInput → ℕ
short_of_forecast m = sum_by (λ s. sum_by (λ t. arrivals m.problem s t - came m s t) (steps m.problem))
    (stores m.problem)

-- to no store more comes in any step than the forecast says
abbrev pub IsWithinForecast : RunInput → Type 0
IsWithinForecast m = AtEach (length m.problem.rows) (length m.problem.windows)
    (λ s t. came m s t ≤ arrivals m.problem s t)

-- what comes beyond the forecast costs no more than itself: at most the loss, and one packet more for each that comes
-- beyond the forecast, is lost; and at most the loss where nothing does
pub record LosesAtMost (m : RunInput) (loss lost : ℕ) : Type 0 where
  pub beyond : lost ≤ loss + beyond_forecast m
  pub within : IsWithinForecast m → lost ≤ loss

-- how many packets the first k stores lost, by the rows of a report
abbrev pub lost_by_first : ℕ → List (List StepCounts) → ℕ
lost_by_first k rows = sum_by (λ row. sum_by (λ x. x.lost) (take k row)) rows

-- HINDSIGHT: no plan, also if it was made with knowledge of what came, loses fewer packets of what came than were lost,
-- by more than came otherwise than was forecast
abbrev pub LosesAsInHindsight : RunInput → ℕ → Type 0
LosesAsInHindsight m lost = (other : Amounts) → Fits m.problem other
    → lost ≤ loss (as_came m) other + (beyond_forecast m + short_of_forecast m)

-- ISOLATION: what comes to other stores costs a store nothing. By its own counter it loses at most what the plan loses
-- in it, and one packet more for each that comes to it beyond the forecast; and likewise the first stores together
pub record IsIsolated (m : RunInput) (left : List Held) (rows : List (List StepCounts)) : Type 0 where
  pub each : (s : ℕ) → s < length m.problem.rows → (store_state m left s).lost
      ≤ (store_state m m.memory.stores s).lost + store_loss m.problem m.amounts s + beyond_at m s
  pub firsts : (k : ℕ) → k ≤ length m.problem.rows
      → lost_by_first k rows ≤ first_loss k m.problem m.amounts + sum_by (beyond_at m) (range_with_len 0 k)
