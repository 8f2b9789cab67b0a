-- The tables of a simulated plan.
use Rattle.std.specs.Prelude.{◌≡◌, ℕ, ◌<◌, ◌≤◌, List, length, slice_index_or}
use Rattle.mm_base.specs.Grid.{grid_place}
use Rattle.mm_problem.specs.Dumping.{Dumping}
use Rattle.mm_plan.specs.declared.turn.StepVolumes.{StepVolumes}

-- step by step, in each the stores in order
pub record VolumeTables : Type 0 where
  pub stores : ℕ
  pub steps : ℕ
  pub volumes : List StepVolumes
  -- what all stores lose over all steps
  pub total : ℕ

-- no blocks
abbrev pub no_volumes : StepVolumes
no_volumes = record { written = 0; left = 0; lost = 0 }

-- the volumes of a store in a step, where n stores are a step
abbrev pub volumes_at : ℕ → List StepVolumes → ℕ → ℕ → StepVolumes
volumes_at n volumes s t = slice_index_or volumes (grid_place n t s) no_volumes

abbrev pub written_in : VolumeTables → ℕ → ℕ → ℕ
written_in v s t = (volumes_at v.stores v.volumes s t).written

abbrev pub left_in : VolumeTables → ℕ → ℕ → ℕ
left_in v s t = (volumes_at v.stores v.volumes s t).left

abbrev pub lost_in : VolumeTables → ℕ → ℕ → ℕ
lost_in v s t = (volumes_at v.stores v.volumes s t).lost

-- a store and a step of the tables
pub record IsVolumePlace (v : VolumeTables) (s t : ℕ) : Type 0 where
  pub store : s < v.stores
  pub first : 1 ≤ t
  pub last : t ≤ v.steps

-- the tables have the problem's stores and steps
pub record CoversProblem (q : Dumping) (v : VolumeTables) : Type 0 where
  pub stores : v.stores ≡ length q.rows
  pub steps : v.steps ≡ length q.windows

-- both give the same for each store and step of the problem
abbrev pub AgreeEach : Dumping → (ℕ → ℕ → ℕ) → (ℕ → ℕ → ℕ) → Type 0
AgreeEach q f g = (s t : ℕ) → s < length q.rows → 1 ≤ t → t ≤ length q.windows → f s t ≡ g s t
