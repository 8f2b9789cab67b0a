use Rattle.std.proofs.Common.{arith}
use Rattle.mm_utc.proofs.CalendarLemmas.{days_of_years_more}
use Rattle.mm_utc.proofs.calendar.date_of.Goals as goal

pub month_of-month-requires : goal.month_of-month-requires
month_of-month-requires c = omega (arith, days_of_years_more c.year_of-year.result (omega arith))
