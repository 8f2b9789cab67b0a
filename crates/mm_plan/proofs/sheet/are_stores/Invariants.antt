use Rattle.std.proofs.Common.{◌≡◌, ℕ, ◌<◌, [], get_or}
use Rattle.mm_problem.specs.Dumping.{row}
use Rattle.mm_plan.proofs.sheet.are_stores.Given as goal

abbrev pub invariant-loop-place : goal.invariant-loop-place
invariant-loop-place l = (k : ℕ) → k < l.place → get_or l.ids k [] ≡ (row l.problem k).id
