-- UTC, or the time shift between local time and UTC (ISO 8601-1, 5.3).
use Rattle.std.specs.Prelude.{ℕ, ◌+◌, ◌-◌, ◌*◌, ◌<◌, ◌==◌, nat_lt, nat_le, List, [], ◌∷◌, Result, Ok, Err}
use Rattle.std.specs.Prelude.{if◌then◌else◌}
use Rattle.mm_base.specs.Reading.{◌>>=◌}
use Rattle.mm_utc.specs.Digits.{below_at, after, at_end}
use Rattle.mm_utc.specs.declared.clock.TheConstants.{MINUTE, HOUR}
use Rattle.mm_utc.specs.declared.moment.TheConstants.{MOMENTS}
use Rattle.mm_utc.specs.declared.zone.Zone.{Zone}
use Rattle.mm_utc.specs.declared.zone.Zone.TheVariants.{Ahead, Behind}
use Rattle.mm_utc.specs.declared.fault.MomentFault.{MomentFault}
use Rattle.mm_utc.specs.declared.fault.MomentFault.TheVariants.{Form, NoZone, NoSuchOffset, OutsideYears}

-- the microseconds of hours and minutes, and nothing after them
unfoldable pub offset_in : List ℕ → Result ℕ MomentFault
offset_in text = do
  hour ← below_at 24 NoSuchOffset text
  rest ← after 58 hour.1
  minute ← below_at 60 NoSuchOffset rest
  end ← at_end minute.1
  Ok (hour.0 * HOUR + minute.0 * MINUTE)

-- `Z`, or an offset after `+` or `-`
unfoldable pub zone_in : List ℕ → Result Zone MomentFault
zone_in [] = Err NoZone
zone_in (sign ∷ rest) =
    if sign == 90 then (do
      end ← at_end rest
      Ok (Ahead 0))
    else (if sign == 43 then (do
      offset ← offset_in rest
      Ok (Ahead offset))
    else (if sign == 45 then (do
      offset ← offset_in rest
      Ok (Behind offset))
    else Err Form))

-- the offset is below this
abbrev pub IsBelow : ℕ → Zone → Type 0
IsBelow bound (Ahead offset) = offset < bound
IsBelow bound (Behind offset) = offset < bound

-- the moment of a local time, if it lies in the years 1 to 9999
abbrev pub in_utc : ℕ → Zone → Result ℕ MomentFault
in_utc local (Ahead offset) = if nat_le offset local then Ok (local - offset) else Err OutsideYears
in_utc local (Behind offset) = if nat_lt (local + offset) MOMENTS then Ok (local + offset) else Err OutsideYears
