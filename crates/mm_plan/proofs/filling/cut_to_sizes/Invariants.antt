use Rattle.std.proofs.Common.{◌≡◌, ℕ, ◌<◌, ◌≤◌, length, get_or, min}
use Rattle.mm_problem.specs.Dumping.{size}
use Rattle.mm_plan.proofs.filling.cut_to_sizes.Given as goal

-- the stores so far are cut
abbrev pub invariant-loop-store : goal.invariant-loop-store
invariant-loop-store l = record {
  cut : (s : ℕ) → s < l.store → get_or l.left s 0 ≡ min (get_or l.fn.left s 0) (size l.problem s l.step);
  rest : (s : ℕ) → l.store ≤ s → get_or l.left s 0 ≡ get_or l.fn.left s 0;
}
