use Rattle.std.proofs.Common.{◌≡◌, ◌-◌}
use Rattle.std.specs.List.{range_with_len}
use Rattle.mm_cut.specs.Cuts.{limit_or_0}
use Rattle.mm_chart.specs.Series.{largest}
use Rattle.mm_chart.proofs.rows.most_limit.Given as goal

abbrev pub invariant-loop-step : goal.invariant-loop-step
invariant-loop-step l = l.most ≡ largest (λ t. limit_or_0 l.problem t l.channel) (range_with_len 1 (l.step - 1))
