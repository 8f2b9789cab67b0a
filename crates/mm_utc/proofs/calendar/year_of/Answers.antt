use Rattle.std.proofs.Common.{arith, ◌+◌, ◌-◌, ◌/◌}
use Rattle.mm_utc.proofs.CalendarLemmas.{days_of_years_is}
use Rattle.mm_utc.proofs.calendar.year_of.Goals as goal

pub loop-year-init : goal.loop-year-init
loop-year-init c = record {
  first = omega arith;
  last = omega arith;
  begins = omega (arith, days_of_years_is (c.args.day / 366 + 1 - 1));
}

pub returns-after-loop-year-clause-ends : goal.returns-after-loop-year-clause-ends
returns-after-loop-year-clause-ends c = omega (arith, days_of_years_is c.loop-year.year)
