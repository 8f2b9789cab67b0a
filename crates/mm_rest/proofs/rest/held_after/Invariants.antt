use Rattle.std.proofs.Common.{◌≡◌, map}
use Rattle.std.specs.List.{range_with_len}
use Rattle.mm_plan.specs.Table.{amount}
use Rattle.mm_plan.specs.Volumes.{left}
use Rattle.mm_rest.proofs.rest.held_after.Given as goal

abbrev pub invariant-loop-store : goal.invariant-loop-store
invariant-loop-store l =
    l.held.items ≡ map (λ s. left l.problem (amount l.plan) s l.step) (range_with_len 0 l.store)
