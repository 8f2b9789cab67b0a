use Rattle.std.proofs.Common.{◌≡◌, ◌+◌, ◌-◌, ◌*◌, ◌≤◌}
use Rattle.std.specs.List.{sum_by, range_with_len}
use Rattle.mm_base.specs.declared.limits.TheConstants.{MAX_BLOCKS}
use Rattle.mm_problem.specs.Dumping.{start, arrivals}
use Rattle.mm_chart.proofs.rows.coming_to.Given as goal

abbrev pub invariant-loop-step : goal.invariant-loop-step
invariant-loop-step l = record {
  coming : l.coming ≡ start l.picture.problem l.store + sum_by (arrivals l.picture.problem l.store) (range_with_len 1 (l.step - 1));
  most : l.coming ≤ l.step * MAX_BLOCKS;
}
