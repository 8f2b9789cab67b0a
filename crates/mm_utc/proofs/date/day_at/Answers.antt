use Rattle.std.proofs.Common.{arith, ◌<◌, ◌^◌, ℕ}
use Rattle.std.proofs.lemmas.Result.{IfOk-weaker}
use Rattle.mm_utc.proofs.CalendarLemmas.{days_of_years-le}
use Rattle.mm_utc.proofs.date.day_at.Goals as goal

pub returns-clause-small : goal.returns-clause-small
returns-clause-small c =
    let year : ℕ = c.in_ok-year.year in
    let four : year < 10 ^ 4 = c.in_ok-year.ensures.small in
    IfOk-weaker c.day_in_year.result _ _
    (λ x within. let below : x.0 < 3652059 = omega (arith, within, days_of_years-le year (omega arith)) in below)
    c.day_in_year.ensures.small
