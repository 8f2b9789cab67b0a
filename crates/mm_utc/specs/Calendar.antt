-- The Gregorian calendar, before its introduction too (ISO 8601-1, 4.2.1).
use Rattle.std.specs.Prelude.{◌≡◌, ℕ, zero, suc, ◌+◌, ◌-◌, ◌%◌, ◌≤◌, nat_le, ◌==◌, Bool, true, not, ◌&&◌, ◌||◌}
use Rattle.std.specs.Prelude.{List, [], ◌∷◌, take, sum}
use Rattle.std.specs.Prelude.{slice_index, if◌then◌else◌}
use Rattle.mm_utc.specs.declared.calendar.Date.{Date}
use Rattle.mm_utc.specs.declared.calendar.TheConstants.{LAST_YEAR}

-- a leap year: each fourth year, of the hundredth years only each fourth
abbrev pub is_leap : ℕ → Bool
is_leap year = (year % 4 == 0) && (not (year % 100 == 0) || (year % 400 == 0))

-- the days of each month of a year
abbrev pub month_lengths : ℕ → List ℕ
month_lengths year =
    31 ∷ (if is_leap year then 29 else 28) ∷ 31 ∷ 30 ∷ 31 ∷ 30 ∷ 31 ∷ 31 ∷ 30 ∷ 31 ∷ 30 ∷ 31 ∷ []

-- the days of a month
abbrev pub month_length : ℕ → ℕ → ℕ
month_length year month = slice_index (month_lengths year) (month - 1)

-- the days of a year
unfoldable pub year_length : ℕ → ℕ
year_length year = sum (month_lengths year)

-- the days of the first n months of a year
unfoldable pub days_of_months : ℕ → ℕ → ℕ
days_of_months year n = sum (take n (month_lengths year))

-- the days of the first n years
unfoldable pub days_of_years : ℕ → ℕ
days_of_years zero = 0
days_of_years (suc n) = days_of_years n + year_length (suc n)

-- whether the year has this day
abbrev pub is_date : Date → Bool
is_date date = nat_le 1 date.month && nat_le date.month 12 && nat_le 1 date.day
    && nat_le date.day (month_length date.year date.month)

-- the days before a day, from the first day of the year 1
abbrev pub day_number : Date → ℕ
day_number date = days_of_years (date.year - 1) + days_of_months date.year (date.month - 1) + (date.day - 1)

-- the date of a day, which is given by the number of days before it
pub record IsDateOf (day : ℕ) (date : Date) : Type 0 where
  pub first_year : 1 ≤ date.year
  pub last_year : date.year ≤ LAST_YEAR
  pub exists : is_date date ≡ true
  pub is_day : day_number date ≡ day
