use Rattle.std.proofs.Common.{◌≡◌, ◌++◌}
use Rattle.std.specs.List.{flat_map, range_with_len}
use Rattle.mm_rest.specs.Forecasts.{sized_cell}
use Rattle.mm_rest.proofs.forecast.push_size_columns.Given as goal

abbrev pub invariant-loop-column : goal.invariant-loop-column
invariant-loop-column l =
    l.text.items ≡ l.initial.text.items ++ flat_map (sized_cell l.problem) (range_with_len 0 l.column)
