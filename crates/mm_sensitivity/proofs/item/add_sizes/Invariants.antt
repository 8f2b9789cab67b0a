use Rattle.std.proofs.Common.{◌≡◌, ◌-◌, ◌++◌, map}
use Rattle.std.specs.List.{range_with_len}
use Rattle.mm_sensitivity.specs.declared.item.Item.TheVariants.{StepSize}
use Rattle.mm_sensitivity.proofs.item.add_sizes.Given as goal

abbrev pub invariant-loop-step : goal.invariant-loop-step
invariant-loop-step l = l.items.items ≡ l.initial.items.items ++ map (StepSize l.column) (range_with_len 1 (l.step - 1))
