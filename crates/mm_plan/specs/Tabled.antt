-- Tables of volumes while they are made.
use Rattle.std.specs.Prelude.{◌≡◌, ℕ, ◌<◌, ◌≤◌, List, length}
use Rattle.mm_base.specs.Grid.{grid_place}
use Rattle.mm_problem.specs.Dumping.{Dumping}
use Rattle.mm_plan.specs.declared.turn.StepVolumes.{StepVolumes}
use Rattle.mm_plan.specs.Simulated.{volumes_at}
use Rattle.mm_plan.specs.Volumes.{Amounts, written, left, lost}

-- what a plan does to a store in a step
abbrev pub volumes : Dumping → Amounts → ℕ → ℕ → StepVolumes
volumes q x s t = record { written = written q x s t; left = left q x s t; lost = lost q x s t }

-- the volumes of the first k places, step by step, in each the stores in order
pub record AreTabled (q : Dumping) (x : Amounts) (k : ℕ) (table : List StepVolumes) : Type 0 where
  pub places : length table ≡ k
  pub each : (s t : ℕ) → s < length q.rows → 1 ≤ t → grid_place (length q.rows) t s < k
      → volumes_at (length q.rows) table s t ≡ volumes q x s t
