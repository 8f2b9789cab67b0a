-- Days in texts: the calendar date and the ordinal date (ISO 8601-1, 5.2.2 and 5.2.3), each as the number of days
-- before it from the first day of the year 1.
use Rattle.std.specs.Prelude.{ℕ, ◌+◌, ◌-◌, nat_le, ◌&&◌, List, Result, Ok, Err, if◌then◌else◌}
use Rattle.mm_base.specs.Reading.{◌>>=◌, test}
use Rattle.mm_utc.specs.Calendar.{is_date, day_number, year_length, days_of_years}
use Rattle.mm_utc.specs.Digits.{number_at, after}
use Rattle.mm_utc.specs.declared.calendar.Date.{Date}
use Rattle.mm_utc.specs.declared.fault.MomentFault.{MomentFault}
use Rattle.mm_utc.specs.declared.fault.MomentFault.TheVariants.{NoSuchDay, OutsideYears}

-- the day of the year that has this number, counted from 1
abbrev pub ordinal_day : ℕ → ℕ → Result ℕ MomentFault
ordinal_day year day =
    if nat_le 1 day && nat_le day (year_length year) then Ok (days_of_years (year - 1) + (day - 1)) else Err NoSuchDay

-- the day of the calendar
abbrev pub calendar_day : Date → Result ℕ MomentFault
calendar_day date = if is_date date then Ok (day_number date) else Err NoSuchDay

-- month and day of the year, and the text after them
unfoldable pub calendar_day_at : ℕ → List ℕ → Result (ℕ × List ℕ) MomentFault
calendar_day_at year text = do
  month ← number_at 2 text
  rest ← after 45 month.1
  day ← number_at 2 rest
  number ← calendar_day (record { year = year; month = month.0; day = day.0 })
  Ok (number, day.1)

-- the day of the year, where it was read, or else month and day
abbrev pub ordinal_or : ℕ → List ℕ → Result (ℕ × List ℕ) MomentFault → Result (ℕ × List ℕ) MomentFault
ordinal_or year text (Ok day) = do
  number ← ordinal_day year day.0
  Ok (number, day.1)
ordinal_or year text (Err _) = calendar_day_at year text

-- three digits are the day of the year, other texts month and day
unfoldable pub day_in_year : ℕ → List ℕ → Result (ℕ × List ℕ) MomentFault
day_in_year year text = ordinal_or year text (number_at 3 text)

-- the day at the front of the text, and the text after it
unfoldable pub day_at : List ℕ → Result (ℕ × List ℕ) MomentFault
day_at text = do
  year ← number_at 4 text
  rest ← after 45 year.1
  exists ← test (nat_le 1 year.0) OutsideYears
  day_in_year year.0 rest
