use Rattle.std.proofs.Common.{◌≡◌, [], map, length}
use Rattle.mm_plan.specs.Reading.{id_of, each}
use Rattle.mm_plan.proofs.line.stores_of.Given as goal

abbrev pub invariant-loop-rest : goal.invariant-loop-rest
invariant-loop-rest l = each id_of l.ids.items (map (λ w. w.now) l.rest) ≡ each id_of [] (map (λ w. w.now) l.words)

abbrev pub decreases-loop-rest : goal.decreases-loop-rest
decreases-loop-rest l = length l.rest
