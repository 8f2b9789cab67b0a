use Rattle.std.proofs.Common.{◌≡◌, ◌++◌}
use Rattle.std.specs.List.{flat_map, range_with_len}
use Rattle.mm_rest.specs.Forecasts.{arrived_cell}
use Rattle.mm_rest.proofs.forecast.push_arrivals.Given as goal

abbrev pub invariant-loop-store : goal.invariant-loop-store
invariant-loop-store l =
    l.text.items ≡ l.initial.text.items ++ flat_map (arrived_cell l.problem l.step) (range_with_len 0 l.store)
