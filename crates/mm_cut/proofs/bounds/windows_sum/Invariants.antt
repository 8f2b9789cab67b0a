use Rattle.std.proofs.Common.{◌≡◌, ◌-◌, ◌*◌, ◌≤◌}
use Rattle.std.specs.Prelude.{filter}
use Rattle.std.specs.List.{sum_by, range_with_len}
use Rattle.mm_base.specs.declared.limits.TheConstants.{MAX_BLOCKS}
use Rattle.mm_problem.specs.Dumping.{window}
use Rattle.mm_cut.specs.Cuts.{counts_window}
use Rattle.mm_cut.proofs.bounds.windows_sum.Given as goal

abbrev pub invariant-loop-step : goal.invariant-loop-step
invariant-loop-step l = record {
  sum : l.sum ≡ sum_by (window l.marks.problem.now) (filter (counts_window l.marks.problem.now l.marks.stretches.now l.marks.counts.now) (range_with_len 1 (l.step - 1)));
  most : l.sum ≤ (l.step - 1) * MAX_BLOCKS;
}
