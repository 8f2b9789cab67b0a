use Rattle.std.proofs.Common.{◌≡◌, ◌-◌}
use Rattle.std.specs.Prelude.{sum_by}
use Rattle.std.specs.List.{range_with_len}
use Rattle.mm_rest.specs.Halts.{dumped_by}
use Rattle.mm_rest.proofs.halt.left_by.Given as goal

abbrev pub invariant-loop-store : goal.invariant-loop-store
invariant-loop-store l =
    l.left ≡ l.blocks - sum_by (dumped_by l.problem l.halted l.channel) (range_with_len 0 l.store)
