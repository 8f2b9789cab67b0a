use Rattle.std.proofs.Common.{◌≡◌, ◌-◌, map}
use Rattle.std.specs.List.{flat_map, range_with_len}
use Rattle.mm_problem.specs.Dumping.{stores}
use Rattle.mm_rest.specs.Halts.{arrivals_left}
use Rattle.mm_rest.proofs.begun.arrived.Given as goal

abbrev pub invariant-loop-step : goal.invariant-loop-step
invariant-loop-step l = l.cells.items
    ≡ flat_map (λ t. map (arrivals_left l.problem t) (stores l.problem)) (range_with_len 1 (l.step - 1))
