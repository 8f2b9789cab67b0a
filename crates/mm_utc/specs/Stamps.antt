-- Moments as ISO 8601 writes them: a calendar date or an ordinal date (ISO 8601-1, 5.2.2 and 5.2.3), a time of day, and
-- UTC or the shift from it (5.3).
use Rattle.std.specs.Prelude.{◌≡◌, ℕ, ◌+◌, ◌-◌, ◌*◌, ◌^◌, ◌<◌, ◌≤◌, ◌==◌, ◌||◌, true, List, [], ◌∷◌, ◌++◌}
use Rattle.std.specs.Prelude.{Result, Ok, IfOk}
use Rattle.mm_utc.specs.Calendar.{is_date, day_number, year_length, days_of_years}
use Rattle.mm_utc.specs.Digits.{Reads, digits_of}
use Rattle.mm_utc.specs.Moments.{moment_in}
use Rattle.mm_utc.specs.Printing.{date_text}
use Rattle.mm_utc.specs.Zone.{in_utc}
use Rattle.mm_utc.specs.declared.calendar.Date.{Date}
use Rattle.mm_utc.specs.declared.calendar.TheConstants.{LAST_YEAR}
use Rattle.mm_utc.specs.declared.clock.TheConstants.{SECOND, MINUTE, HOUR, DAY}
use Rattle.mm_utc.specs.declared.fault.MomentFault.{MomentFault}
use Rattle.mm_utc.specs.declared.zone.Zone.{Zone}
use Rattle.mm_utc.specs.declared.zone.Zone.TheVariants.{Ahead, Behind}

-- a day: a date of the calendar, or a year and a day of it, which counts from 1
pub data Day : Type 0 where
  calendar : Date → Day
  ordinal : ℕ → ℕ → Day

-- the second of a minute: left out, whole, or with so many decimals, which are this number
pub data Second : Type 0 where
  omitted : Second
  whole : ℕ → Second
  decimal : ℕ → ℕ → ℕ → Second

-- UTC, or hours and minutes ahead of it or behind it
pub data Shift : Type 0 where
  utc : Shift
  ahead : ℕ → ℕ → Shift
  behind : ℕ → ℕ → Shift

-- a moment as it is written
pub record Stamp : Type 0 where
  pub day : Day
  pub separator : ℕ
  pub hour : ℕ
  pub minute : ℕ
  pub second : Second
  pub shift : Shift

-- the day exists
abbrev pub IsDay : Day → Type 0
IsDay (calendar date) = (1 ≤ date.year) × (date.year ≤ LAST_YEAR) × (is_date date ≡ true)
IsDay (ordinal year day) = (1 ≤ year) × (year ≤ LAST_YEAR) × (1 ≤ day) × (day ≤ year_length year)

-- the second exists, and has at most six decimals
abbrev pub IsSecond : Second → Type 0
IsSecond omitted = Unit {0}
IsSecond (whole second) = second < 60
IsSecond (decimal second count part) = (second < 60) × (1 ≤ count) × (count ≤ 6) × (part < 10 ^ count)

-- the shift is less than a day
abbrev pub IsShift : Shift → Type 0
IsShift utc = Unit {0}
IsShift (ahead hour minute) = (hour < 24) × (minute < 60)
IsShift (behind hour minute) = (hour < 24) × (minute < 60)

-- each part exists, and `T` or a space separates day and time
pub record IsStamp (stamp : Stamp) : Type 0 where
  pub day : IsDay stamp.day
  pub separator : ((stamp.separator == 84) || (stamp.separator == 32)) ≡ true
  pub hour : stamp.hour < 24
  pub minute : stamp.minute < 60
  pub second : IsSecond stamp.second
  pub shift : IsShift stamp.shift

-- the text of a day
abbrev pub day_text : Day → List ℕ
day_text (calendar date) = date_text date
day_text (ordinal year day) = digits_of 4 year ++ (45 ∷ digits_of 3 day)

-- the text of a second, with the colon before it
abbrev pub second_text : Second → List ℕ
second_text omitted = []
second_text (whole second) = 58 ∷ digits_of 2 second
second_text (decimal second count part) = 58 ∷ digits_of 2 second ++ (46 ∷ digits_of count part)

-- the text of hours and minutes
abbrev pub minutes_text : ℕ → ℕ → List ℕ
minutes_text hour minute = digits_of 2 hour ++ (58 ∷ digits_of 2 minute)

-- the text of a shift
abbrev pub shift_text : Shift → List ℕ
shift_text utc = 90 ∷ []
shift_text (ahead hour minute) = 43 ∷ minutes_text hour minute
shift_text (behind hour minute) = 45 ∷ minutes_text hour minute

-- the text of a moment
abbrev pub stamp_text : Stamp → List ℕ
stamp_text s =
    day_text s.day ++ (s.separator ∷ minutes_text s.hour s.minute ++ (second_text s.second ++ shift_text s.shift))

-- the days before a day
abbrev pub number_of : Day → ℕ
number_of (calendar date) = day_number date
number_of (ordinal year day) = days_of_years (year - 1) + (day - 1)

-- the microseconds of a minute before a second
abbrev pub microseconds_of : Second → ℕ
microseconds_of omitted = 0
microseconds_of (whole second) = second * SECOND
microseconds_of (decimal second count part) = second * SECOND + part * 10 ^ (6 - count)

-- a shift in microseconds
abbrev pub zone_of : Shift → Zone
zone_of utc = Ahead 0
zone_of (ahead hour minute) = Ahead (hour * HOUR + minute * MINUTE)
zone_of (behind hour minute) = Behind (hour * HOUR + minute * MINUTE)

-- the time of day, in microseconds
abbrev pub clock_of : Stamp → ℕ
clock_of s = s.hour * HOUR + s.minute * MINUTE + microseconds_of s.second

-- the text writes the moment: it is that of a local time and a shift which exist, and the moment is theirs
pub record Writes (text : List ℕ) (m : ℕ) : Type 0 where
  pub stamp : Stamp
  pub exists : IsStamp stamp
  pub spelled : text ≡ stamp_text stamp
  pub is_moment : in_utc (number_of stamp.day * DAY + clock_of stamp) (zone_of stamp.shift) ≡ Ok m

-- the result of reading a text as a moment
pub record IsParsedMoment (text : List ℕ) (result : Result ℕ MomentFault) : Type 0 where
  -- the text writes the moment
  pub found : IfOk result (λ m. Writes text m)
  -- a moment that the text writes is read
  pub only : (m : ℕ) → Writes text m → result ≡ Ok m
  -- where there is none, it is the first fault from left to right
  pub exact : Reads (λ m. m) result (moment_in text)
