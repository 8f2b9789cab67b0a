use Rattle.std.proofs.Common.{◌≤◌, ◌-◌}
use Rattle.mm_utc.specs.Calendar.{days_of_months}
use Rattle.mm_utc.proofs.calendar.month_of.Given as goal

abbrev pub invariant-loop-month : goal.invariant-loop-month
invariant-loop-month l = record {
  first : 1 ≤ l.month;
  last : l.month ≤ 12;
  begins : days_of_months l.year (l.month - 1) ≤ l.day;
}

abbrev pub decreases-loop-month : goal.decreases-loop-month
decreases-loop-month l = 12 - l.month
