-- Rates in lowest terms.
use Rattle.std.proofs.Common.{◌≡◌, ℕ, ◌*◌, ◌/◌, ◌≤◌, ◌<◌, ◌==◌, Bool, true, false, cond, Option, Some, None, Result, Ok}
use Rattle.std.proofs.Common.{Err, refl, ap, arith, inl, inr}
use Rattle.std.specs.Prelude.{nat_le, ◌&&◌}
use Rattle.std.proofs.lemmas.Bool.{cases_Bool}
use Rattle.mm_mission.proofs.Timed.{cancel}
use Rattle.mm_mission.specs.declared.limits.TheConstants.{MAX_RATE}
use Rattle.mm_mission.specs.declared.parts.Rate.{Rate}
use Rattle.mm_utc.proofs.FractionLemmas.{lowest_is}
use Rattle.mm_utc.specs.Fractions.{gcd, lowest}
use Rattle.mm_utc.specs.declared.fault.AmountFault.{AmountFault}
use Rattle.mm_utc.specs.declared.fault.AmountFault.TheVariants.{TooLarge}
use Rattle.mm_utc.specs.declared.fraction.Fraction.{Fraction}
use Rattle.mm_utc.specs.declared.unit.Measure.{Measure}
use Rattle.mm_utc.specs.declared.unit.Measure.TheVariants.{Octets}
use Rattle.mm_mission_exact.specs.declared.rate.TheConstants.{SECOND}
use Rattle.mm_mission_exact.specs.Rates.{rate_in, octets_in, rate_over}
use Rattle.mm_mission_exact.specs.Laws.{IsExactly, AreBits}

chosen : (within : Bool) (o m : ℕ) (r : Rate) → cond within (Some (record { octets = o; micros = m })) None ≡ Some r
    → ◌≡◌ {A = Result Fraction AmountFault} (cond within (Ok (record { above = o; below = m })) (Err TooLarge))
    (Ok (record { above = r.octets; below = r.micros }))
chosen true o m r h =
    let first : o ≡ r.octets = cc in
    let second : m ≡ r.micros = cc in
    rw (first, second) refl
chosen false o m r h = absurd (cc)

-- a rate that is found is the fraction in lowest terms
rate_lowest : (o m : ℕ) (r : Rate) → rate_in o m ≡ Some r
    → lowest o m ≡ Ok (record { above = r.octets; below = r.micros })
unfolding rate_in lowest
rate_lowest o m r h = elim (cases_Bool (m == 0)) [
  | inl none ↦ absurd (let refused = rw none at h in cc)
  | inr other ↦ rw other (chosen _ (o / gcd o m) (m / gcd o m) r (rw other at h))
]

-- it is exact
pub rate_is : (o m : ℕ) (r : Rate) → rate_in o m ≡ Some r → IsExactly o m r
rate_is o m r h =
    let (is, _, _) = lowest_is o m (record { above = r.octets; below = r.micros }) (rate_lowest o m r h) in
    record { same = is.same; some = is.some; lowest = is.lowest }

-- it is within its range
pub rate_within : (o m : ℕ) (r : Rate) → rate_in o m ≡ Some r → (r.octets ≤ MAX_RATE) × (r.micros ≤ MAX_RATE)
rate_within o m r h =
    let (_, octets, micros) = lowest_is o m (record { above = r.octets; below = r.micros }) (rate_lowest o m r h) in
    (octets, micros)

-- the octets of a rate by its microseconds are the bits a second by 8,000,000
pub bits_are : (packet : ℕ) (octets bits : Fraction) (r : Rate) → 1 ≤ octets.below → AreBits octets bits
    → rate_over packet SECOND Octets octets ≡ Some r → r.octets * (8000000 * bits.below) ≡ bits.above * r.micros
bits_are packet octets bits r some are h =
    let same : r.octets * (octets.below * 1000000) ≡ octets.above * 1 * r.micros = (rate_is _ _ r h).same in
    let eight : r.octets * (octets.below * 1000000) * (8 * bits.below) ≡ octets.above * 1 * r.micros * (8 * bits.below)
    = ap (λ n. n * (8 * bits.below)) same in
    let told : 8 * octets.above * bits.below * r.micros ≡ bits.above * octets.below * r.micros
    = ap (λ n. n * r.micros) are in
    cancel (r.octets * (8000000 * bits.below)) (bits.above * r.micros) octets.below some (omega arith)
