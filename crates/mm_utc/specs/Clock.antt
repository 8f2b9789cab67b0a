-- The time of day (ISO 8601-1, 5.3): hour, minute, and second with its decimal fraction or neither.
use Rattle.std.specs.Prelude.{ℕ, ◌+◌, ◌-◌, ◌*◌, ◌^◌, ◌==◌, nat_lt, List, [], ◌∷◌, Result, Ok, Err, if◌then◌else◌}
use Rattle.std.specs.Char.{is_ascii_digit}
use Rattle.std.specs.List.{prefix_len}
use Rattle.mm_base.specs.Reading.{◌>>=◌}
use Rattle.mm_utc.specs.Digits.{number_at, below_at, after}
use Rattle.mm_utc.specs.declared.clock.TheConstants.{SECOND, MINUTE, HOUR}
use Rattle.mm_utc.specs.declared.fault.MomentFault.{MomentFault}
use Rattle.mm_utc.specs.declared.fault.MomentFault.TheVariants.{Form, NoSuchTime, LeapSecond, TooFine}

-- the microseconds of one to six digits of a second, and the text after them
unfoldable pub digits_fraction_at : List ℕ → Result (ℕ × List ℕ) MomentFault
digits_fraction_at text =
    let count = prefix_len is_ascii_digit text in
    if count == 0 then Err Form else (if nat_lt 6 count then Err TooFine else (do
      number ← number_at count text
      Ok (number.0 * 10 ^ (6 - count), number.1)))

-- a full stop with these digits, or no fraction of a second
abbrev pub fraction_at : List ℕ → Result (ℕ × List ℕ) MomentFault
fraction_at [] = Ok (0, [])
fraction_at (octet ∷ rest) = if octet == 46 then digits_fraction_at rest else Ok (0, octet ∷ rest)

-- a second below 60 with its fraction, in microseconds, and the text after them
unfoldable pub second_at : List ℕ → Result (ℕ × List ℕ) MomentFault
second_at text = do
  second ← number_at 2 text
  if second.0 == 60 then Err LeapSecond else (if nat_lt 60 second.0 then Err NoSuchTime else (do
    part ← fraction_at second.1
    Ok (second.0 * SECOND + part.0, part.1)))

-- a colon with this second, or no seconds
abbrev pub seconds_at : List ℕ → Result (ℕ × List ℕ) MomentFault
seconds_at [] = Ok (0, [])
seconds_at (octet ∷ rest) = if octet == 58 then second_at rest else Ok (0, octet ∷ rest)

-- the microseconds from midnight to this time of day, and the text after it
unfoldable pub clock_at : List ℕ → Result (ℕ × List ℕ) MomentFault
clock_at text = do
  hour ← below_at 24 NoSuchTime text
  rest ← after 58 hour.1
  minute ← below_at 60 NoSuchTime rest
  part ← seconds_at minute.1
  Ok (hour.0 * HOUR + minute.0 * MINUTE + part.0, part.1)
