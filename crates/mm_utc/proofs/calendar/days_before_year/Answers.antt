use Rattle.std.proofs.Common.{arith, ◌-◌}
use Rattle.mm_utc.proofs.CalendarLemmas.{days_of_years_is}
use Rattle.mm_utc.proofs.calendar.days_before_year.Goals as goal

pub returns : goal.returns
returns c = omega (arith, days_of_years_is (c.args.year - 1))
