-- Least common multiples, and numbers in the order of fractions.
use Rattle.std.proofs.Common.{◌≡◌, ℕ, zero, suc, ◌+◌, ◌*◌, ◌/◌, ◌%◌, ◌<◌, ◌≤◌, refl, sym, ap, ◌∙◌, subst, inl, inr}
use Rattle.std.proofs.Common.{arith}
use Rattle.std.specs.Int.{◌∣◌, IsGcd}
use Rattle.std.proofs.Math.Nat.{div-mul_cancel, dvd-mul_left, dvd_of_mul-dvd-mul_right, eq-one_of_dvd-one}
use Rattle.std.proofs.Math.Nat.{le_of_dvd, pos_of_dvd_of_pos, mul-pos, mul-le-mul_right, le_of_mul-le-mul_right}
use Rattle.std.proofs.lemmas.Bool.{cases_eq}
use Rattle.std.proofs.lemmas.Nat.Gcd.{IsGcd-from_zero, IsGcd-from_mod}
use Rattle.mm_mission.specs.declared.limits.TheConstants.{MAX_RATE}
use Rattle.mm_mission.proofs.Timed.{cancel}
use Rattle.mm_overlap.specs.Better.{IsLeastMultiple}

-- a greatest common divisor by Euclid's steps
euclid : (steps a b : ℕ) → b < steps → (g : ℕ) × IsGcd a b g
euclid zero a b few = absurd (omega arith)
euclid (suc steps) a b few = elim (cases_eq b 0) [
  | inl none ↦ (a, IsGcd-from_zero a b none)
  | inr some ↦
      let next = euclid steps b (a % b) (omega arith) in
      (next.0, IsGcd-from_mod a b next.0 next.1)
]

module _ (a b g : ℕ) (is : IsGcd a b g) where
  of_first : a / g * g ≡ a
  of_first = div-mul_cancel g is.0

  of_second : b / g * g ≡ b
  of_second = div-mul_cancel g is.1

  other_way : a / g * b ≡ b / g * a
  other_way =
      let first : a / g * (b / g * g) ≡ a / g * b = ap (λ n. a / g * n) of_second in
      let second : b / g * (a / g * g) ≡ b / g * a = ap (λ n. b / g * n) of_first in
      omega (arith, first, second)

  -- the product over the greatest common divisor is a multiple of both
  pub first_divides : a ∣ a / g * b
  first_divides = subst (λ n. a ∣ n) (sym other_way) (dvd-mul_left a (b / g))

  pub second_divides : b ∣ a / g * b
  second_divides = dvd-mul_left b (a / g)

  -- a common divisor of it that is a multiple of both is the whole
  whole : (t : ℕ) → 0 < a → 0 < b → t ∣ a / g * b → a ∣ t → b ∣ t → t ≡ a / g * b
  whole t first second divides of_a of_b =
      let k = a / g * b / t in
      let all : k * t ≡ a / g * b = div-mul_cancel t divides in
      let by_a : t / a * a ≡ t = div-mul_cancel a of_a in
      let by_b : t / b * b ≡ t = div-mul_cancel b of_b in
      let in_b : k * (t / a) ≡ b / g =
      cancel (k * (t / a)) (b / g) a first (omega (arith, ap (λ n. k * n) by_a, all, other_way)) in
      let in_a : k * (t / b) ≡ a / g =
      cancel (k * (t / b)) (a / g) b second (omega (arith, ap (λ n. k * n) by_b, all)) in
      let first_is : t / b * (k * g) ≡ a = omega (arith, ap (λ n. n * g) in_a, of_first) in
      let second_is : t / a * (k * g) ≡ b = omega (arith, ap (λ n. n * g) in_b, of_second) in
      let divides_a : k * g ∣ a = subst (λ n. k * g ∣ n) first_is (dvd-mul_left (k * g) (t / b)) in
      let divides_b : k * g ∣ b = subst (λ n. k * g ∣ n) second_is (dvd-mul_left (k * g) (t / a)) in
      let once : g ≡ 1 * g = omega arith in
      let divides_g : k * g ∣ 1 * g = subst (λ n. k * g ∣ n) once (is.2 (k * g) divides_a divides_b) in
      let one : k ≡ 1 = eq-one_of_dvd-one (dvd_of_mul-dvd-mul_right k (pos_of_dvd_of_pos is.0 first) divides_g) in
      let once_t : 1 * t ≡ a / g * b = rw one at all in
      omega (arith, once_t)

  -- it divides each multiple of both
  pub least_divides : (s : ℕ) → 0 < a → 0 < b → a ∣ s → b ∣ s → a / g * b ∣ s
  least_divides s first second of_a of_b =
      let common = euclid (suc s) (a / g * b) s (omega arith) in
      let t = common.0 in
      let divisor : IsGcd (a / g * b) s t = common.1 in
      let same = whole t first second divisor.0 (divisor.2 a first_divides of_a) (divisor.2 b second_divides of_b) in
      subst (λ n. n ∣ s) same divisor.1

-- ---- fractions: o in a time is as p in b, and n in that time as q in d

module _ (time o p b n q d : ℕ) (first : o * b ≡ p * time) (second : n * d ≡ q * time) where
  -- what is less in the time is less as a fraction
  pub at_most_as : 0 < time → o ≤ n → p * d ≤ q * b
  at_most_as some less =
      let more : o * (b * d) ≤ n * (b * d) = mul-le-mul_right (b * d) less in
      let all : p * d * time ≤ q * b * time =
      omega (arith, more, ap (λ k. k * d) first, ap (λ k. k * b) second) in
      le_of_mul-le-mul_right all some

  -- and the other way round
  pub at_most_in : 0 < b → 0 < d → p * d ≤ q * b → o ≤ n
  at_most_in b_some d_some less =
      let more : p * d * time ≤ q * b * time = mul-le-mul_right time less in
      let all : o * (b * d) ≤ n * (b * d) = omega (arith, more, ap (λ k. k * d) first, ap (λ k. k * b) second) in
      le_of_mul-le-mul_right all (mul-pos b_some d_some)

  pub together : (o + n) * (b * d) ≡ (p * d + q * b) * time
  together = omega (arith, ap (λ k. k * d) first, ap (λ k. k * b) second)

-- ---- the least common multiple, if it is in range

module _ (n m g t : ℕ) (is : IsGcd n m g) (multiple : t ≡ n / g * m) (some : 1 ≤ n) where
  -- one of numbers of which none is 0
  some_second : (m : ℕ) → 1 ≤ n / g * m → 1 ≤ m
  some_second zero product = absurd (omega arith)
  some_second (suc m) product = omega arith

  pub least_is : 1 ≤ t → t ≤ MAX_RATE → IsLeastMultiple n m t
  least_is above within =
      let second = some_second m (omega arith) in
      rw multiple (record {
        first = first_divides n m g is;
        second = second_divides n m g is;
        least = λ s of_n of_m. least_divides n m g is s some second of_n of_m;
        some = omega arith;
        within = omega arith;
      })

  -- where it is 0 or out of range, each common multiple is out of range
  pub none_least : (1 ≤ t → MAX_RATE < t) → (s : ℕ) → 1 ≤ s → n ∣ s → m ∣ s → MAX_RATE < s
  none_least out s above of_n of_m =
      let second : 1 ≤ m = pos_of_dvd_of_pos of_m above in
      let in_t : n / g * m ∣ s = least_divides n m g is s some second of_n of_m in
      let below : n / g * m ≤ s = le_of_dvd above in_t in
      let product : 0 < n / g * m = pos_of_dvd_of_pos in_t above in
      omega (arith, out (omega arith), below)
