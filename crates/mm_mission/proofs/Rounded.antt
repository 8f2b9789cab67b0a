-- Rounded quotients.
use Rattle.std.proofs.Common.{◌≡◌, ℕ, ◌+◌, ◌-◌, ◌*◌, ◌/◌, ◌%◌, min, ◌<◌, ◌≤◌, ap, arith, inl, inr}
use Rattle.std.proofs.Math.Nat.{div-add-mod'}
use Rattle.std.proofs.lemmas.Bool.{cases_eq, cases_lt}
use Rattle.std.proofs.lemmas.Nat.{le-div, mod_below, mul-le}

module _ (d : ℕ) (some : 0 < d) where
  -- a quotient, times its divisor, is at most the number, and with one more is above it
  pub div_most : (x : ℕ) → x / d * d ≤ x
  div_most x = omega (arith, div-add-mod' x d)

  pub div_least : (x : ℕ) → x < (x / d + 1) * d
  div_least x = omega (arith, div-add-mod' x d, mod_below x d some)

  -- larger numbers have larger quotients
  pub div_rises : (x y : ℕ) → x ≤ y → x / d ≤ y / d
  div_rises x y rises = le-div (x / d) y d some (omega (arith, div_most x))

  -- what a quotient grows by is what the number grows by, divided, but for less than one
  pub growth_most : (x y z : ℕ) → x + z ≡ y → (y / d - x / d) * d < z + d
  growth_most x y z sum =
      let n = y / d - x / d in
      let rises : x / d ≤ y / d = div_rises x y (omega arith) in
      let parts : n + x / d ≡ y / d = omega arith in
      omega (arith, ap (λ k. k * d) parts, div_most y, div_least x)

  pub growth_least : (x y z : ℕ) → x + z ≡ y → z < (y / d - x / d + 1) * d
  growth_least x y z sum =
      let n = y / d - x / d in
      let rises : x / d ≤ y / d = div_rises x y (omega arith) in
      let parts : n + x / d ≡ y / d = omega arith in
      omega (arith, ap (λ k. k * d) parts, div_most x, div_least y)

  -- a quotient that is rounded up
  pub up_least : (x : ℕ) → x ≤ (x / d + min 1 (x % d)) * d
  up_least x = elim (cases_eq (x % d) 0) [
    | inl even ↦
        let none : min 1 (x % d) ≡ 0 = omega arith in
        rw none (omega (arith, div-add-mod' x d))
    | inr more ↦
        let one : min 1 (x % d) ≡ 1 = omega arith in
        rw one (omega (arith, div-add-mod' x d, mod_below x d some))
  ]

  pub up_most : (x : ℕ) → (x / d + min 1 (x % d)) * d < x + d
  up_most x = elim (cases_eq (x % d) 0) [
    | inl even ↦
        let none : min 1 (x % d) ≡ 0 = omega arith in
        rw none (omega (arith, div-add-mod' x d))
    | inr more ↦
        let one : min 1 (x % d) ≡ 1 = omega arith in
        rw one (omega (arith, div-add-mod' x d))
  ]

  pub up_rises : (x y : ℕ) → x ≤ y → x / d + min 1 (x % d) ≤ y / d + min 1 (y % d)
  up_rises x y rises =
      let low = up_most x in
      let high = up_least y in
      elim (cases_lt (y / d + min 1 (y % d)) (x / d + min 1 (x % d))) [
        | inl above ↦ absurd (omega (
          arith,
          low,
          high,
          mul-le (y / d + min 1 (y % d) + 1) d
              (x / d + min 1 (x % d)) d (omega arith) (omega arith),
        ))
        | inr within ↦ within
      ]
