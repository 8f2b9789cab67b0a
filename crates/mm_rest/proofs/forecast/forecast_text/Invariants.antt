use Rattle.std.proofs.Common.{◌≡◌, ◌-◌, ◌++◌}
use Rattle.std.specs.List.{flat_map, range_with_len}
use Rattle.mm_rest.specs.Forecasts.{header_text, step_text}
use Rattle.mm_rest.proofs.forecast.forecast_text.Given as goal

abbrev pub invariant-loop-step : goal.invariant-loop-step
invariant-loop-step l =
    l.text.items ≡ header_text l.problem ++ flat_map (step_text l.problem) (range_with_len 1 (l.step - 1))
