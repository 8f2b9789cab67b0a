use Rattle.std.proofs.Common.{◌≤◌, ◌-◌}
use Rattle.mm_utc.specs.Calendar.{days_of_years}
use Rattle.mm_utc.proofs.calendar.year_of.Given as goal

abbrev pub invariant-loop-year : goal.invariant-loop-year
invariant-loop-year l = record {
  first : 1 ≤ l.year;
  last : l.year ≤ 9999;
  begins : days_of_years (l.year - 1) ≤ l.day;
}

abbrev pub decreases-loop-year : goal.decreases-loop-year
decreases-loop-year l = 9999 - l.year
