use Rattle.std.proofs.Common.{◌≡◌, map, take}
use Rattle.std.specs.Prelude.{All}
use Rattle.mm_sensitivity.specs.declared.worth.Worth.{Worth}
use Rattle.mm_sensitivity.specs.Worth.{IsWorth}
use Rattle.mm_sensitivity.proofs.worth.worths_with_progress.Given as goal

abbrev pub invariant-loop-item : goal.invariant-loop-item
invariant-loop-item g l = record {
  items : map (λ (w : Worth). w.item) l.worths.items ≡ take l.item-index l.item-items;
  each : All (IsWorth l.problem) l.worths.items;
}
