-- Volumes of a plan whose steps can be carried out: arrivals come before dumps, and no store has sizes by step.
use Rattle.std.proofs.Common.{◌≡◌, ℕ, ◌+◌, ◌-◌, min, refl, ap, ◌∙◌, arith}
use Rattle.mm_problem.specs.Dumping.{Dumping, IsFlyable, setup_size, size}
use Rattle.mm_problem.proofs.StepSizes.{size_is_setup}
use Rattle.mm_plan.specs.Volumes.{Amounts, can_leave, left, there, written, lost}
use Rattle.mm_plan.proofs.Steps.{left_step}

module _ (q : Dumping) (flyable : IsFlyable q) (x : Amounts) (s t : ℕ) where
  -- what is written is what is there, up to the size
  pub written_flown : written q x s t ≡ min (there q x s t) (setup_size q s)
  written_flown = ap (λ come. can_leave come (size q s t) (there q x s t)) flyable.before
      ∙ ap (min (there q x s t)) (size_is_setup q s t flyable.one_size)

  -- what is left is what the step's amount leaves of it
  pub left_flown : (n : ℕ) → n + 1 ≡ t → left q x s t ≡ written q x s t - min (x s t) (written q x s t)
  left_flown n e = left_step q x s n t e ∙ rw flyable.before refl

  -- what is not written is lost
  pub lost_flown : lost q x s t ≡ there q x s t - written q x s t
  lost_flown = rw flyable.before (omega arith)
