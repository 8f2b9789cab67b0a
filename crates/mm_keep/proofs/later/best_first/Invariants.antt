use Rattle.std.proofs.Common.{◌+◌, ◌≤◌}
use Rattle.mm_keep.proofs.later.best_first.Given as goal

abbrev pub invariant-loop-first : goal.invariant-loop-first
invariant-loop-first l = (1 ≤ l.best) × (l.best ≤ l.steps + 1)
