use Rattle.std.proofs.Common.{◌≡◌, ◌*◌, ◌^◌, ◌≤◌, ◌-◌}
use Rattle.std.specs.List.{sum_by, range_with_len}
use Rattle.mm_base.specs.declared.limits.TheConstants.{MAX_STORES}
use Rattle.mm_chart.specs.Series.{amount_of}
use Rattle.mm_chart.proofs.column.Column.total.Given as goal

abbrev pub invariant-loop-step : goal.invariant-loop-step
invariant-loop-step l = record {
  total : l.total ≡ sum_by (amount_of l.self.picture.now l.self.series) (range_with_len 1 (l.step - 1));
  most : l.total ≤ (l.step - 1) * (MAX_STORES * 2 ^ 32);
}
