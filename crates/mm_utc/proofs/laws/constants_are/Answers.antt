use Rattle.std.proofs.Common.{sym}
use Rattle.mm_utc.proofs.CalendarLemmas.{days_of_years_is}
use Rattle.mm_utc.proofs.laws.constants_are.Goals as goal

pub returns-clause-days : goal.returns-clause-days
returns-clause-days c = sym (days_of_years_is 9999)
