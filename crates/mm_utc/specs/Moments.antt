-- Moments in texts (ISO 8601-1, 5.4; the ASCII time codes A and B of CCSDS 301.0-B, 3.5): a day, a time of day, and a
-- zone.
use Rattle.std.specs.Prelude.{ℕ, ◌+◌, ◌*◌, ◌==◌, ◌||◌, List, [], ◌∷◌, Result, Ok, Err, if◌then◌else◌}
use Rattle.mm_base.specs.Reading.{◌>>=◌}
use Rattle.mm_utc.specs.Clock.{clock_at}
use Rattle.mm_utc.specs.Dates.{day_at}
use Rattle.mm_utc.specs.Zone.{zone_in, in_utc}
use Rattle.mm_utc.specs.declared.clock.TheConstants.{DAY}
use Rattle.mm_utc.specs.declared.fault.MomentFault.{MomentFault}
use Rattle.mm_utc.specs.declared.fault.MomentFault.TheVariants.{Form}

-- the text after `T` or a space
abbrev pub separated : List ℕ → Result (List ℕ) MomentFault
separated [] = Err Form
separated (octet ∷ rest) = if (octet == 84) || (octet == 32) then Ok rest else Err Form

-- the moment that a text says, in microseconds from the first day of the year 1 in UTC, or the first fault
unfoldable pub moment_in : List ℕ → Result ℕ MomentFault
moment_in text = do
  day ← day_at text
  rest ← separated day.1
  clock ← clock_at rest
  zone ← zone_in clock.1
  in_utc (day.0 * DAY + clock.0) zone
