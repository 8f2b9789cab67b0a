use Rattle.std.proofs.Common.{◌≡◌, ◌*◌, ◌^◌, ◌≤◌, take}
use Rattle.mm_report.specs.Report.{totals_in}
use Rattle.mm_report.proofs.counts.totals_in.Given as goal

-- each sum has room for as many counts as there may be
abbrev pub invariant-loop-counts : goal.invariant-loop-counts
invariant-loop-counts l = record {
  totals : l.totals ≡ totals_in (take l.counts-index l.all);
  arrived : l.totals.arrived ≤ l.counts-index * 2 ^ 64;
  lost : l.totals.lost ≤ l.counts-index * 2 ^ 64;
  dumped : l.totals.dumped ≤ l.counts-index * 2 ^ 64;
  held : l.totals.held ≤ l.counts-index * 2 ^ 64;
}
