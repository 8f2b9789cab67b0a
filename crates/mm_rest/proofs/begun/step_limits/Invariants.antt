use Rattle.std.proofs.Common.{◌≡◌, ◌-◌, map}
use Rattle.std.specs.List.{flat_map, range_with_len}
use Rattle.mm_rest.specs.Halts.{limit_left}
use Rattle.mm_rest.proofs.begun.step_limits.Given as goal

abbrev pub invariant-loop-step : goal.invariant-loop-step
invariant-loop-step l = l.cells.items
    ≡ flat_map (λ t. map (limit_left l.problem l.left t) l.limited) (range_with_len 1 (l.step - 1))
