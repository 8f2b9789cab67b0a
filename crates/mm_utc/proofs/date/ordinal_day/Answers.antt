use Rattle.std.proofs.Common.{arith, ◌-◌}
use Rattle.mm_utc.proofs.CalendarLemmas.{year_length-le, days_of_years-le, days_of_years_more}
use Rattle.mm_utc.proofs.date.ordinal_day.Goals as goal

pub overflow_add-result : goal.overflow_add-result
overflow_add-result c =
    omega (arith, year_length-le c.args.year, days_of_years-le (c.args.year - 1) (omega arith))

pub returns-clause-small : goal.returns-clause-small
returns-clause-small c = omega (arith, days_of_years_more c.args.year (omega arith))
