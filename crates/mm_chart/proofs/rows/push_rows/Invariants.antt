use Rattle.std.proofs.Common.{◌≡◌, ◌-◌, ◌++◌}
use Rattle.std.specs.List.{flat_map, range_with_len}
use Rattle.mm_chart.specs.Svg.{drawn}
use Rattle.mm_chart.specs.Rows.{tick, channel_row, store_row}
use Rattle.mm_chart.proofs.rows.push_rows.Given as goal

abbrev pub invariant-loop-step : goal.invariant-loop-step
invariant-loop-step l =
    l.text.items ≡ l.initial.text.items ++ drawn (flat_map (tick l.picture) (range_with_len 1 (l.step - 1)))

abbrev pub invariant-loop-channel : goal.invariant-loop-channel
invariant-loop-channel l =
    l.text.items ≡ l.initial.text.items ++ drawn (flat_map (channel_row l.picture) (range_with_len 0 l.channel))

abbrev pub invariant-loop-store : goal.invariant-loop-store
invariant-loop-store l =
    l.text.items ≡ l.initial.text.items ++ drawn (flat_map (store_row l.picture) (range_with_len 0 l.store))
