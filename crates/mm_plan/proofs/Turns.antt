-- What becomes of the blocks that are there in a store in a step.
use Rattle.std.proofs.Common.{◌≡◌, ℕ, ◌+◌, ◌-◌, ◌<◌, ◌≤◌, min, arith}
use Rattle.mm_problem.specs.declared.come.Arrivals.{Arrivals}
use Rattle.mm_problem.specs.declared.come.Arrivals.TheVariants.{Before, During}
use Rattle.mm_plan.specs.Volumes.{can_leave, stays_by, held_by, left_by, lost_by}

-- no more can leave than is there
pub can_leave-le : (come : Arrivals) (size there : ℕ) → can_leave come size there ≤ there
can_leave-le Before size there = omega arith
can_leave-le During size there = omega arith

-- no less can leave than fits
pub can_leave-ge : (come : Arrivals) (size there : ℕ) → min there size ≤ can_leave come size there
can_leave-ge Before size there = omega arith
can_leave-ge During size there = omega arith

-- more can leave where more is there
pub can_leave-more : (come : Arrivals) (size a b : ℕ) → a ≤ b → can_leave come size a ≤ can_leave come size b
can_leave-more Before size a b le = omega arith
can_leave-more During size a b le = omega arith

-- no more is held than stays
pub held_by-le : (come : Arrivals) (size stay : ℕ) → held_by come size stay ≤ stay
held_by-le Before size stay = omega arith
held_by-le During size stay = omega arith

-- no more is left than the size
pub left_by-le : (come : Arrivals) (size there dump : ℕ) → left_by come size there dump ≤ size
left_by-le Before size there dump = omega arith
left_by-le During size there dump = omega arith

-- each block that is there leaves, is left or is lost
pub all_there : (come : Arrivals) (size there dump : ℕ) → there
    ≡ min dump (can_leave come size there) + left_by come size there dump + lost_by come size there dump
all_there Before size there dump = omega arith
all_there During size there dump = omega arith

module _ (come : Arrivals) (size a b x y : ℕ) (fewer : a ≤ b) (kept : min y (can_leave come size a) ≤ x) where
  -- where no more is there, and as much leaves or all that can, no more is left
  pub left_by-less : left_by come size a x ≤ left_by come size b y
  left_by-less = less come kept
    where
      less : (come : Arrivals) → min y (can_leave come size a) ≤ x → left_by come size a x ≤ left_by come size b y
      less Before kept = omega arith
      less During kept = omega arith

  -- and no more is lost
  pub lost_by-less : lost_by come size a x ≤ lost_by come size b y
  lost_by-less = less come kept
    where
      less : (come : Arrivals) → min y (can_leave come size a) ≤ x → lost_by come size a x ≤ lost_by come size b y
      less Before kept = omega arith
      less During kept = omega arith
