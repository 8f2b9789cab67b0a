-- The date of a day, and moments in UTC as they are printed.
use Rattle.std.specs.Prelude.{ℕ, zero, suc, ◌+◌, ◌-◌, ◌/◌, ◌%◌, nat_le, List, if◌then◌else◌}
use Rattle.mm_utc.specs.Calendar.{days_of_years, days_of_months}
use Rattle.mm_utc.specs.Printing.{moment_text}
use Rattle.mm_utc.specs.declared.calendar.TheConstants.{LAST_YEAR}
use Rattle.mm_utc.specs.declared.clock.TheConstants.{DAY}

-- the last of the first n years, or months, that has begun by a day, by the days before each begin
unfoldable pub last_begun : (ℕ → ℕ) → ℕ → ℕ → ℕ
last_begun days day zero = 0
last_begun days day (suc n) = if nat_le (days n) day then suc n else last_begun days day n

-- the year of a day, which is given by the number of days before it
unfoldable pub year_of : ℕ → ℕ
year_of day = last_begun days_of_years day LAST_YEAR

-- the days of its year before it
unfoldable pub day_of_year : ℕ → ℕ
day_of_year day = day - days_of_years (year_of day - 1)

-- its month
unfoldable pub month_of : ℕ → ℕ
month_of day = last_begun (days_of_months (year_of day)) (day_of_year day) 12

-- its day of the month
unfoldable pub day_of_month : ℕ → ℕ
day_of_month day = day_of_year day - days_of_months (year_of day) (month_of day - 1) + 1

-- a moment as `mm_utc` prints it
unfoldable pub utc_text : ℕ → List ℕ
utc_text moment =
    let day = moment / DAY in
    moment_text (record { year = year_of day; month = month_of day; day = day_of_month day }) (moment % DAY)
