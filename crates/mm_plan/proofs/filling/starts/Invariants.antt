use Rattle.std.proofs.Common.{◌≡◌, ℕ, ◌<◌, length, get_or}
use Rattle.mm_base.specs.declared.limits.TheConstants.{MAX_STORES}
use Rattle.mm_problem.specs.Dumping.{start}
use Rattle.mm_plan.proofs.filling.starts.Given as goal

abbrev pub invariant-loop-store : goal.invariant-loop-store
invariant-loop-store l = record {
  places : length l.left ≡ MAX_STORES;
  below : (s : ℕ) → s < l.store → get_or l.left s 0 ≡ start l.problem s;
}
