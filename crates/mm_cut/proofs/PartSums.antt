-- The sums that a bound is made of.
use Rattle.std.proofs.Common.{◌≡◌, ℕ, ◌+◌, List}
use Rattle.mm_base.proofs.Sums.{sum_by-filter_parts}
use Rattle.mm_problem.specs.Dumping.{Dumping, window, steps}
use Rattle.mm_plan.specs.declared.stretch.Stretch.{Stretch}
use Rattle.mm_cut.specs.Stretches.{is_inner}
use Rattle.mm_cut.specs.Counts.{is_listed}
use Rattle.mm_cut.specs.Cuts.{limit_sum, leaving_sum, windows_sum, limits_sum}

-- what may leave in inner steps leaves by windows or by limits
pub leaving_sum_parts : (q : Dumping) (ds : List Stretch) (ts : List ℕ) → leaving_sum q ds ts ≡ windows_sum q ds ts + limits_sum q ds ts
leaving_sum_parts q ds ts = sum_by-filter_parts (is_inner q ds) (is_listed ts) (limit_sum q ds) (window q) (steps q)
