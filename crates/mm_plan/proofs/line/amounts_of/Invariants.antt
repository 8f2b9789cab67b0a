use Rattle.std.proofs.Common.{◌≡◌, [], map, length}
use Rattle.mm_base.specs.declared.limits.TheConstants.{MAX_BLOCKS}
use Rattle.mm_plan.specs.Reading.{number_of, each}
use Rattle.mm_plan.proofs.line.amounts_of.Given as goal

abbrev pub invariant-loop-rest : goal.invariant-loop-rest
invariant-loop-rest l =
    let amounts = each (number_of MAX_BLOCKS) in
    amounts l.amounts.items (map (λ w. w.now) l.rest) ≡ amounts [] (map (λ w. w.now) l.words)

abbrev pub decreases-loop-rest : goal.decreases-loop-rest
decreases-loop-rest l = length l.rest
