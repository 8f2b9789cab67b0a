use Rattle.std.proofs.Common.{arith, ◌-◌}
use Rattle.mm_utc.proofs.CalendarLemmas.{year_length-le, days_of_years-le, days_of_years_more, months_within}
use Rattle.mm_utc.proofs.date.calendar_day.Goals as goal

pub overflow_add-result : goal.overflow_add-result
overflow_add-result c =
    let d = c.args.date in
    omega (
      arith,
      year_length-le d.year,
      days_of_years-le (d.year - 1) (omega arith),
      months_within d.year d.month (omega arith) (omega arith),
    )

pub overflow_add-result-2 : goal.overflow_add-result-2
overflow_add-result-2 c =
    let d = c.args.date in
    omega (
      arith,
      year_length-le d.year,
      days_of_years-le (d.year - 1) (omega arith),
      months_within d.year d.month (omega arith) (omega arith),
    )

pub returns-clause-small : goal.returns-clause-small
returns-clause-small c =
    let d = c.args.date in
    omega (arith, days_of_years_more d.year (omega arith), months_within d.year d.month (omega arith) (omega arith))
