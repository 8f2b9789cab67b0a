use Rattle.std.proofs.Common.{◌≡◌, ◌+◌, ◌-◌, ap, arith}
use Rattle.mm_utc.specs.Calendar.{days_of_months}
use Rattle.mm_utc.proofs.CalendarLemmas.{days_of_months_none, days_of_months_more, days_of_months_all}
use Rattle.mm_utc.proofs.calendar.month_of.Goals as goal

pub loop-month-init : goal.loop-month-init
loop-month-init c = record {
  first = omega arith;
  last = omega arith;
  begins = omega (arith, days_of_months_none c.args.year);
}

pub returns-else-days_before_month-day-clause-ends : goal.returns-else-days_before_month-day-clause-ends
returns-else-days_before_month-day-clause-ends c =
    let year = c.args.year in
    let month = c.loop-month.month in
    let same : month + 1 - 1 ≡ month = omega arith in
    omega (arith, days_of_months_more year month (omega arith) (omega arith), ap (days_of_months year) same)

pub returns-after-loop-month-clause-ends : goal.returns-after-loop-month-clause-ends
returns-after-loop-month-clause-ends c =
    let year = c.args.year in
    let month = c.loop-month.month in
    let last : month ≡ 12 = omega arith in
    omega (
      arith,
      days_of_months_more year month (omega arith) (omega arith),
      ap (days_of_months year) last,
      days_of_months_all year,
    )
