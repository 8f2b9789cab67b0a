-- What exact numbers are, in the words of their subjects.
use Rattle.std.specs.Prelude.{◌≡◌, ℕ, ◌*◌, ◌≤◌, Some}
use Rattle.std.specs.Int.{IsGcd}
use Rattle.mm_mission.specs.declared.parts.Rate.{Rate}
use Rattle.mm_utc.specs.declared.fraction.Fraction.{Fraction}
use Rattle.mm_utc.specs.declared.unit.Measure.{Measure}
use Rattle.mm_utc.specs.declared.unit.Measure.TheVariants.{Octets, Blocks}
use Rattle.mm_mission_exact.specs.declared.rate.TheConstants.{SECOND}
use Rattle.mm_mission_exact.specs.Rates.{octets_in, rate_over}

-- a rate is so many octets in so many microseconds, in lowest terms
pub record IsExactly (octets micros : ℕ) (r : Rate) : Type 0 where
  pub same : r.octets * micros ≡ octets * r.micros
  pub some : 1 ≤ r.micros
  pub lowest : IsGcd r.octets r.micros 1

-- the rate of a fraction of octets, or of packets, in so many microseconds is exactly that
abbrev pub RatesAreExact : Type 0
RatesAreExact = (packet micros : ℕ) (measure : Measure) (f : Fraction) (r : Rate)
    → rate_over packet micros measure f ≡ Some r → IsExactly (f.above * octets_in packet measure) (f.below * micros) r

-- octets a second are as many as these bits a second: eight bits to an octet
abbrev pub AreBits : Fraction → Fraction → Type 0
AreBits octets bits = 8 * octets.above * bits.below ≡ bits.above * octets.below

-- the octets of a rate by its microseconds are the bits a second by 8,000,000
abbrev pub BitsAreExact : Type 0
BitsAreExact = (packet : ℕ) (octets bits : Fraction) (r : Rate) → 1 ≤ octets.below → AreBits octets bits
    → rate_over packet SECOND Octets octets ≡ Some r → r.octets * (8000000 * bits.below) ≡ bits.above * r.micros

-- so many packets a second are the octets of that many packets
abbrev pub BlocksAreExact : Type 0
BlocksAreExact = (packet : ℕ) (blocks : Fraction) (r : Rate) → rate_over packet SECOND Blocks blocks ≡ Some r
    → r.octets * (blocks.below * SECOND) ≡ blocks.above * packet * r.micros
