use Rattle.std.proofs.Common.{◌≡◌, ◌*◌, ◌^◌, ◌≤◌, ◌-◌}
use Rattle.std.specs.List.{range_with_len}
use Rattle.mm_base.specs.declared.limits.TheConstants.{MAX_STORES}
use Rattle.mm_chart.specs.Series.{amount_of, largest}
use Rattle.mm_chart.proofs.column.Column.most.Given as goal

abbrev pub invariant-loop-step : goal.invariant-loop-step
invariant-loop-step l = record {
  largest : l.most ≡ largest (amount_of l.self.picture.now l.self.series) (range_with_len 1 (l.step - 1));
  most : l.most ≤ MAX_STORES * 2 ^ 32;
}
