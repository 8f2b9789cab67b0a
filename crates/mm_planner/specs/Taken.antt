-- The plan of a flow: what leaves a store is what flows from it to its channel.
use Rattle.std.specs.Prelude.{◌≡◌, ℕ, ◌+◌, ◌-◌, ◌*◌, ◌<◌, ◌≤◌, length}
use Rattle.mm_problem.specs.Dumping.{Dumping}
use Rattle.mm_plan.specs.Volumes.{Amounts}
use Rattle.mm_flow.specs.Flow.{Flow}

-- the number of arcs for each step
abbrev pub step_width : Dumping → ℕ
step_width q = 4 * length q.rows + length q.limits + 1

-- the number of the first arc of a step
abbrev pub first_arc : Dumping → ℕ → ℕ
first_arc q t = (t - 1) * step_width q

-- the number of the arc by which blocks leave a store in a step
abbrev pub take_place : Dumping → ℕ → ℕ → ℕ
take_place q t s = first_arc q t + 3 * length q.rows + s

-- the amounts of a plan are what a flow takes from the stores
abbrev pub AreTaken : Dumping → Flow → Amounts → Type 0
AreTaken q f x = (s t : ℕ) → s < length q.rows → 1 ≤ t → t ≤ length q.windows → x s t ≡ f (take_place q t s)

-- the amounts of all earlier steps, and of the earlier stores in this step, are what a flow takes from the stores
pub record IsTakenTo (q : Dumping) (f : Flow) (x : Amounts) (t n : ℕ) : Type 0 where
  pub earlier : (s u : ℕ) → s < length q.rows → 1 ≤ u → u < t → x s u ≡ f (take_place q u s)
  pub here : (s : ℕ) → s < n → x s t ≡ f (take_place q t s)
