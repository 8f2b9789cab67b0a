use Rattle.std.proofs.Common.{◌≡◌, ◌+◌, map, take}
use Rattle.mm_keep.proofs.later.later_counts.Given as goal

abbrev pub invariant-loop-count : goal.invariant-loop-count
invariant-loop-count l = l.later.items ≡ map (λ t. l.steps + t) (take l.count-index l.counts)
