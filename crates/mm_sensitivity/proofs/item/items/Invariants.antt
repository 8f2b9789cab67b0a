use Rattle.std.proofs.Common.{◌≡◌, ◌-◌, ◌++◌, map}
use Rattle.std.specs.Prelude.{filter}
use Rattle.std.specs.List.{flat_map, range_with_len}
use Rattle.mm_sensitivity.specs.declared.item.Item.TheVariants.{Window, Size, Limit}
use Rattle.mm_sensitivity.specs.Items.{has_limit, column_items, size_items}
use Rattle.mm_sensitivity.proofs.item.items.Given as goal

-- each loop adds its numbers to those that were there
abbrev pub invariant-loop-step : goal.invariant-loop-step
invariant-loop-step l = l.items.items ≡ l.initial.items.items ++ map Window (range_with_len 1 (l.step - 1))

abbrev pub invariant-loop-store : goal.invariant-loop-store
invariant-loop-store l = l.items.items ≡ l.initial.items.items ++ map Size (range_with_len 0 l.store)

abbrev pub invariant-loop-channel : goal.invariant-loop-channel
invariant-loop-channel l =
    l.items.items ≡ l.initial.items.items ++ map Limit (filter (has_limit l.problem) (range_with_len 0 l.channel))

abbrev pub invariant-loop-column : goal.invariant-loop-column
invariant-loop-column l =
    l.items.items ≡ l.initial.items.items ++ flat_map (column_items l.problem) (range_with_len 0 l.column)

abbrev pub invariant-loop-sizes : goal.invariant-loop-sizes
invariant-loop-sizes l =
    l.items.items ≡ l.initial.items.items ++ flat_map (size_items l.problem) (range_with_len 0 l.sizes)
