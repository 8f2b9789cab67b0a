use Rattle.std.proofs.Common.{◌≡◌, ◌++◌}
use Rattle.std.specs.List.{flat_map, range_with_len}
use Rattle.mm_rest.specs.Forecasts.{size_cell}
use Rattle.mm_rest.proofs.forecast.push_sizes.Given as goal

abbrev pub invariant-loop-column : goal.invariant-loop-column
invariant-loop-column l =
    l.text.items ≡ l.initial.text.items ++ flat_map (size_cell l.problem l.step) (range_with_len 0 l.column)
