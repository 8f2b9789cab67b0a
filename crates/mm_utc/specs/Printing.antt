-- Moments as they are printed: to the second, or to the microsecond where they have parts of one.
use Rattle.std.specs.Prelude.{◌≡◌, ℕ, ◌/◌, ◌%◌, ◌==◌, List, [], ◌∷◌, ◌++◌, if◌then◌else◌}
use Rattle.mm_utc.specs.Calendar.{IsDateOf}
use Rattle.mm_utc.specs.Digits.{digits_of}
use Rattle.mm_utc.specs.declared.calendar.Date.{Date}
use Rattle.mm_utc.specs.declared.clock.TheConstants.{SECOND, MINUTE, HOUR, DAY}

-- a date: year, month and day with hyphens between them
abbrev pub date_text : Date → List ℕ
date_text date = digits_of 4 date.year ++ (45 ∷ digits_of 2 date.month ++ (45 ∷ digits_of 2 date.day))

-- the parts of a second, if it has any
abbrev pub fraction_text : ℕ → List ℕ
fraction_text part = if part == 0 then [] else 46 ∷ digits_of 6 part

-- a time of day: hour, minute and second with colons between them
abbrev pub clock_text : ℕ → List ℕ
clock_text clock =
    digits_of 2 (clock / HOUR) ++ (58 ∷ digits_of 2 (clock / MINUTE % 60)
    ++ (58 ∷ digits_of 2 (clock / SECOND % 60) ++ fraction_text (clock % SECOND)))

-- a date and a time of day in UTC
abbrev pub moment_text : Date → ℕ → List ℕ
moment_text date clock = date_text date ++ (84 ∷ clock_text clock ++ (90 ∷ []))

-- the text after a moment was written at its end
abbrev pub AppendsMoment : ℕ → List ℕ → List ℕ → Type 0
AppendsMoment m old new = (date : Date) × IsDateOf (m / DAY) date × (new ≡ old ++ moment_text date (m % DAY))
