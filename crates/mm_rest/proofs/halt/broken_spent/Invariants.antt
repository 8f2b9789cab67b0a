use Rattle.std.proofs.Common.{◌≡◌, ◌-◌, take}
use Rattle.std.specs.Prelude.{sum_by}
use Rattle.mm_rest.proofs.halt.broken_spent.Given as goal

abbrev pub invariant-loop-dumped : goal.invariant-loop-dumped
invariant-loop-dumped l =
    l.spent ≡ l.halted.spent - sum_by (λ n. n) (take l.dumped-index l.halted.dumped.items)
