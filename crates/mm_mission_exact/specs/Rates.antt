-- Fractions as rates of whole octets in whole microseconds, and as whole packets.
use Rattle.std.specs.Prelude.{ℕ, ◌*◌, ◌/◌, ◌==◌, nat_le, ◌&&◌, Option, Some, None, if◌then◌else◌}
use Rattle.std.specs.Int.{div_ceil}
use Rattle.mm_mission.specs.declared.limits.TheConstants.{MAX_RATE}
use Rattle.mm_mission.specs.declared.parts.Rate.{Rate}
use Rattle.mm_utc.specs.Fractions.{gcd}
use Rattle.mm_utc.specs.declared.amount.Volume.{Volume}
use Rattle.mm_utc.specs.declared.amount.Rate as said
use Rattle.mm_utc.specs.declared.fraction.Fraction.{Fraction}
use Rattle.mm_utc.specs.declared.unit.Measure.{Measure}
use Rattle.mm_utc.specs.declared.unit.Measure.TheVariants.{Octets, Blocks}
use Rattle.mm_mission_exact.specs.declared.rate.TheConstants.{SECOND}

-- ---- rates

-- the rate, if both of its numbers are in range
abbrev pub in_range : ℕ → ℕ → Option Rate
in_range octets micros =
    if nat_le octets MAX_RATE && nat_le micros MAX_RATE then Some (record { octets = octets; micros = micros })
    else None

-- the rate of so many octets in so many microseconds, in lowest terms, if that is in range
unfoldable pub rate_in : ℕ → ℕ → Option Rate
rate_in octets micros =
    if micros == 0 then None else in_range (octets / gcd octets micros) (micros / gcd octets micros)

-- the octets of one of what is measured, where a block is a packet of so many
abbrev pub octets_in : ℕ → Measure → ℕ
octets_in packet Octets = 1
octets_in packet Blocks = packet

-- the rate of a fraction of octets, or of packets of so many octets, in so many microseconds
abbrev pub rate_over : ℕ → ℕ → Measure → Fraction → Option Rate
rate_over packet micros measure f = rate_in (f.above * octets_in packet measure) (f.below * micros)

-- a rate as it was said, which is one by second
abbrev pub rate_of : ℕ → said.Rate → Option Rate
rate_of packet r = rate_over packet SECOND r.measure r.amount

-- the least common multiple of two numbers, if it is in range
unfoldable pub common : ℕ → ℕ → Option ℕ
common n m =
    if m == 0 then None else if nat_le (n / gcd n m * m) MAX_RATE then Some (n / gcd n m * m) else None

-- what of a rate flows in so many microseconds, a multiple of its own, if it is in range
unfoldable pub octets_over : ℕ → Rate → Option ℕ
octets_over micros r =
    if r.micros == 0 then None
    else if nat_le (r.octets * (micros / r.micros)) MAX_RATE then Some (r.octets * (micros / r.micros)) else None

-- ---- volumes

-- the octets, or blocks, of one place of so many octets
abbrev pub measured : ℕ → Measure → ℕ
measured octets Octets = octets
measured octets Blocks = 1

-- a volume's numerator is divided by this to count places
abbrev pub places_divisor : ℕ → Volume → ℕ
places_divisor octets v = v.amount.below * measured octets v.measure

-- how many places of so many octets a volume has room for, rounded down
abbrev pub places_down : ℕ → Volume → Option ℕ
places_down octets v =
    if places_divisor octets v == 0 then None else Some (v.amount.above / places_divisor octets v)

-- how many such places it takes, rounded up
abbrev pub places_up : ℕ → Volume → Option ℕ
places_up octets v =
    if places_divisor octets v == 0 then None else Some (div_ceil v.amount.above (places_divisor octets v))
