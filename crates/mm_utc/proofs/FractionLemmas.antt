-- The greatest common divisor, and lowest terms.
use Rattle.std.proofs.Common.{◌≡◌, ℕ, zero, suc, ◌*◌, ◌/◌, ◌%◌, ◌≤◌, ◌<◌, ◌==◌, nat_le, Ok, subst, arith, inl, inr}
use Rattle.std.specs.Int.{IsGcd}
use Prim.Native.Nat.{◌∣◌}
use Rattle.std.proofs.Math.Nat.{eq-zero_of_zero-dvd, one-dvd, mul-dvd-mul_right, dvd_of_mul-dvd-mul_right}
use Rattle.std.proofs.Math.Nat.{div-mul_cancel}
use Rattle.std.proofs.lemmas.Bool.{and_parts, cases_Bool}
use Rattle.std.proofs.lemmas.Bool.Decides.{Decides-eqb, nat_tests}
use Rattle.mm_base.proofs.IdFields.{Decides-nat_le}
use Rattle.mm_base.proofs.ReadingSteps.{cond_ok}
use Rattle.std.proofs.lemmas.Nat.Gcd.{IsGcd-from_zero, IsGcd-from_mod}
use Rattle.mm_utc.specs.declared.fraction.Fraction.{Fraction}
use Rattle.mm_utc.specs.declared.fraction.TheConstants.{MOST}
use Rattle.mm_utc.specs.Fractions.{euclid, gcd, lowest, IsLowestOf}

-- enough of Euclid's steps
euclid_is : (steps a b : ℕ) → b < steps → IsGcd a b (euclid steps a b)
euclid_is zero a b few = absurd (omega arith)
euclid_is (suc steps) a b few = elim (cases_Bool (b == 0)) [
  | inl none ↦ rw none (IsGcd-from_zero a b ((Decides-eqb b 0).0 none))
  | inr other ↦ rw other (
      let above : 0 < b = grind (arith, nat_tests) in
      IsGcd-from_mod a b _ (euclid_is steps b (a % b) (omega arith))
      )
]

-- the greatest common divisor
pub gcd_is : (a b : ℕ) → IsGcd a b (gcd a b)
unfolding gcd
gcd_is a b = euclid_is (suc b) a b (omega arith)

-- a divisor of a number above 0 is above 0
pub some_divisor : (a b g : ℕ) → 0 < b → IsGcd a b g → 0 < g
some_divisor a b zero some is = let none : b ≡ 0 = eq-zero_of_zero-dvd is.1 in absurd (omega arith)
some_divisor a b (suc g) some is = omega arith

-- a number above 0 has a quotient above 0 where it is a multiple of the quotient
some_quotient : (q g b : ℕ) → q * g ≡ b → 0 < b → 1 ≤ q
some_quotient zero g b product some = absurd (omega arith)
some_quotient (suc q) g b product some = omega arith

-- the quotients by the greatest common divisor have no common divisor
apart : (a b g : ℕ) → 0 < g → IsGcd (a * g) (b * g) g → IsGcd a b 1
apart a b g some is = (
  one-dvd a,
  one-dvd b,
  λ d of_a of_b.
      let divides = is.2 (d * g) (mul-dvd-mul_right d of_a g) (mul-dvd-mul_right d of_b g) in
      let one : g ≡ 1 * g = omega arith in
      let P : ℕ → Type 0 = λ n. d * g ∣ n in
      dvd_of_mul-dvd-mul_right d some (subst P one divides),
)

-- the quotients are the fraction in lowest terms
in_lowest : (above below : ℕ) → 0 < below
    → IsLowestOf above below (record { above = above / gcd above below; below = below / gcd above below })
in_lowest above below some =
    let g = gcd above below in
    let is = gcd_is above below in
    let a : above / g * g ≡ above = div-mul_cancel g is.0 in
    let b : below / g * g ≡ below = div-mul_cancel g is.1 in
    let product : above / g * (below / g * g) ≡ above / g * g * (below / g) = omega arith in
    record {
      same = (let e = rw (a, b) at product in e);
      some = some_quotient (below / g) g below b some;
      lowest = apart (above / g) (below / g) g (some_divisor above below g some is) (rw (a, b) is);
    }

-- the fraction that is found is in lowest terms, and within the bound
pub lowest_is : (above below : ℕ) (f : Fraction) → lowest above below ≡ Ok f
    → IsLowestOf above below f × (f.above ≤ MOST) × (f.below ≤ MOST)
unfolding lowest
lowest_is above below f h = elim (cases_Bool (below == 0)) [
  | inl none ↦ absurd (let refused = rw none at h in cc)
  | inr other ↦ (
      let some : 0 < below = grind (arith, nat_tests) in
      let (within, is) = cond_ok _ _ _ _ (rw other at h) in
      let (above_within, below_within) = and_parts (nat_le (above / gcd above below) MOST) _ within in
      subst (λ (x : Fraction). IsLowestOf above below x × (x.above ≤ MOST) × (x.below ≤ MOST)) is (
        in_lowest above below some,
        (Decides-nat_le (above / gcd above below) MOST).0 above_within,
        (Decides-nat_le (below / gcd above below) MOST).0 below_within,
      )
      )
]
