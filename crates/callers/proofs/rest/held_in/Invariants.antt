use Rattle.std.proofs.Common.{◌≡◌, map}
use Rattle.std.specs.List.{range_with_len}
use Rattle.mm_problem.specs.Dumping.{row}
use Rattle.callers.specs.Remaining.{held_by}
use Rattle.callers.proofs.rest.held_in.Given as goal

abbrev pub invariant-loop-store : goal.invariant-loop-store
invariant-loop-store l = l.held.items ≡ map (λ s. held_by l.memory (row l.problem s).id) (range_with_len 0 l.store)
