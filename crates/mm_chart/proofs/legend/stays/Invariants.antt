use Rattle.std.proofs.Common.{◌≡◌}
use Rattle.std.specs.List.{list_any, range_with_len}
use Rattle.mm_chart.specs.declared.series.Series.TheVariants.{Left}
use Rattle.mm_chart.specs.Legend.{has}
use Rattle.mm_chart.proofs.legend.stays.Given as goal

abbrev pub invariant-loop-store : goal.invariant-loop-store
invariant-loop-store l = l.stays ≡ list_any (λ s. has l.picture (Left s)) (range_with_len 0 l.store)
