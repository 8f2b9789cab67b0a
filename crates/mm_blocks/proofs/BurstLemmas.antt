-- Texts that differ within 32 bits in a row have different checks.
use Rattle.std.proofs.Common.{◌≡◌, ◌≢◌, ℕ, zero, suc, ◌+◌, ◌-◌, ◌*◌, ◌/◌, ◌%◌, ◌^◌, ◌<◌, ◌≤◌, List, [], ◌∷◌, length}
use Rattle.std.proofs.Common.{refl, sym, ap, ap₂, subst, ◌∙◌, inl, inr, arith, shr-shr, pow_mono, pos_of_ne-zero, mod-lt, mul-le-mul_right, zero-mul}
use Rattle.std.specs.Int.{bit_at}
use Rattle.std.proofs.lemmas.Bool.{cases_eq, cases_lt}
use Rattle.std.proofs.lemmas.Nat.{shr_split, pow_pos}
use Rattle.std.proofs.lemmas.Nat.Bits.{bit_at_cat_low, same_from_bits, same_from_bits_below}
use lib.Bits.{bit_xor, xor_assoc, xor_shr, xor_mod, xor_zero_r, xor_self, xor_lt}
use Rattle.mm_blocks.specs.Check.{generator, ones, next_bit, divided, number_of, remainder_from, crc32c}
use Rattle.mm_blocks.specs.Laws.{AreOctets, DifferInBurst}
use Rattle.mm_blocks.proofs.CheckLemmas.{xor_swap, divided-xor, divided-more, divided-shifted, number_of-below}

-- what differs in no bit is the same
pub xor_none : (a b : ℕ) → bit_xor a b ≡ 0 → a ≡ b
xor_none a b none =
    sym (xor_zero_r a) ∙ ap (bit_xor a) (sym none) ∙ sym (xor_assoc a a b) ∙ ap (λ (x : ℕ). bit_xor x b) (xor_self a)

-- the same bits added twice
xor_twice : (a b : ℕ) → bit_xor (bit_xor a b) b ≡ a
xor_twice a b = xor_assoc a b b ∙ ap (bit_xor a) (xor_self b) ∙ xor_zero_r a

-- a remainder that is not zero stays so
next_bit-pos : (e : ℕ) → 0 < e → e < 2 ^ 32 → (0 < next_bit e) × (next_bit e < 2 ^ 32)
unfolding next_bit
next_bit-pos e some small = elim (cases_eq (e % 2) 0) [ inl even ↦ when_even even | inr other ↦ when_odd (omega arith) ]
  where
    when_even : e % 2 ≡ 0 → (0 < bit_xor (e / 2) (e % 2 * generator)) × (bit_xor (e / 2) (e % 2 * generator) < 2 ^ 32)
    when_even even =
        let is : bit_xor (e / 2) (e % 2 * generator) ≡ e / 2 =
        ap (λ (x : ℕ). bit_xor (e / 2) (x * generator)) even ∙ xor_zero_r (e / 2) in
        (omega arith, omega arith)

    when_odd : e % 2 ≡ 1 → (0 < bit_xor (e / 2) (e % 2 * generator)) × (bit_xor (e / 2) (e % 2 * generator) < 2 ^ 32)
    when_odd odd =
        let is : bit_xor (e / 2) (e % 2 * generator) ≡ bit_xor (e / 2) generator =
        ap (λ (x : ℕ). bit_xor (e / 2) (x * generator)) odd in
        let other : bit_xor (e / 2) generator ≢ 0 =
        λ none. let same : e / 2 ≡ generator = xor_none (e / 2) generator none in absurd (omega arith) in
        let less : bit_xor (e / 2) generator < 2 ^ 32 = xor_lt 32 (e / 2) generator (omega arith) (omega arith) in
        (omega arith, omega arith)

divided-pos : (n e : ℕ) → 0 < e → e < 2 ^ 32 → 0 < divided n e
unfolding divided
divided-pos zero e some small = some
divided-pos (suc n) e some small =
    let next = next_bit-pos e some small in divided-pos n (next_bit e) next.0 next.1

-- octets of one length with one number are the same
number_of-injective : (a b : List ℕ) → length a ≡ length b → AreOctets a → AreOctets b → number_of a ≡ number_of b → a ≡ b
unfolding number_of
number_of-injective [] [] long p q same = refl
number_of-injective [] (y ∷ b) long p q same = absurd (omega arith)
number_of-injective (x ∷ a) [] long p q same = absurd (omega arith)
number_of-injective (x ∷ a) (y ∷ b) long p q same =
    let first : x ≡ y = omega (arith, p 0, q 0) in
    let others : number_of a ≡ number_of b = omega (arith, p 0, q 0) in
    ap₂ (λ (z : ℕ) (c : List ℕ). z ∷ c) first
    (number_of-injective a b (omega arith) (λ i. p (suc i)) (λ i. q (suc i)) others)

-- one bit of a number's parts
low_bit : (n k i : ℕ) → i < k → bit_at (n % 2 ^ k) i ≡ bit_at n i
low_bit n k i less =
    sym (bit_at_cat_low (n / 2 ^ k) k (n % 2 ^ k) i less) ∙ ap (λ (x : ℕ). bit_at x i) (shr_split n k)

high_bit : (n k i : ℕ) → bit_at (n / 2 ^ k) i ≡ bit_at n (k + i)
high_bit n k i = ap (λ (x : ℕ). x % 2) (shr-shr n k i)

-- numbers that differ within 32 bits differ by a number of 32 bits at the first of them
burst_of : (first a b : ℕ) → ((i : ℕ) → i < first → bit_at a i ≡ bit_at b i) → ((i : ℕ) → first + 32 ≤ i → bit_at a i ≡ bit_at b i)
    → (bit_xor a b ≡ bit_xor a b / 2 ^ first * 2 ^ first) × (bit_xor a b / 2 ^ first < 2 ^ 32)
burst_of first a b before after =
    let low : a % 2 ^ first ≡ b % 2 ^ first =
    same_from_bits_below first (a % 2 ^ first) (b % 2 ^ first) (mod-lt a (pow_pos first)) (mod-lt b (pow_pos first))
    (λ i less. low_bit a first i less ∙ before i less ∙ sym (low_bit b first i less)) in
    let high : a / 2 ^ (first + 32) ≡ b / 2 ^ (first + 32) =
    same_from_bits (a / 2 ^ (first + 32)) (b / 2 ^ (first + 32))
    (λ i. high_bit a (first + 32) i ∙ after (first + 32 + i) (omega arith) ∙ sym (high_bit b (first + 32) i)) in
    let none_low : bit_xor a b % 2 ^ first ≡ 0 =
    xor_mod a b first ∙ ap (λ (x : ℕ). bit_xor x (b % 2 ^ first)) low ∙ xor_self (b % 2 ^ first) in
    let none_high : bit_xor a b / 2 ^ first / 2 ^ 32 ≡ 0 =
    shr-shr (bit_xor a b) first 32 ∙ xor_shr a b (first + 32)
    ∙ ap (λ (x : ℕ). bit_xor x (b / 2 ^ (first + 32))) high ∙ xor_self (b / 2 ^ (first + 32)) in
    let split = shr_split (bit_xor a b) first in
    (omega arith, omega arith)

-- their remainders differ by that of their difference
remainders_differ : (a b : List ℕ) → length a ≡ length b
    → bit_xor (remainder_from ones a) (remainder_from ones b) ≡ divided (8 * length a) (bit_xor (number_of a) (number_of b))
remainders_differ a b long =
    ap (λ (n : ℕ). bit_xor (remainder_from ones a) (divided (8 * n) (bit_xor ones (number_of b)))) (sym long)
    ∙ sym (divided-xor (8 * length a) (bit_xor ones (number_of a)) (bit_xor ones (number_of b)))
    ∙ ap (divided (8 * length a)) (xor_swap ones (number_of a) ones (number_of b))

-- a difference that is not zero and begins before the end leaves a remainder
difference_left : (n first e : ℕ) → 0 < e → e < 2 ^ 32 → e * 2 ^ first < 2 ^ n → 0 < divided n (e * 2 ^ first)
difference_left n first e some small within =
    let begins : first < n = elim (cases_lt first n) [
      | inl less ↦ less
      | inr past ↦ absurd (omega (arith, pow_mono past, mul-le-mul_right (2 ^ first) some))
    ] in
    let rest : n ≡ first + (n - first) = omega arith in
    let passed : divided n (e * 2 ^ first) ≡ divided (n - first) e =
    divided-more first (n - first) n (e * 2 ^ first) rest ∙ ap (divided (n - first)) (divided-shifted first e) in
    subst (λ (x : ℕ). 0 < x) (sym passed) (divided-pos (n - first) e some small)

pub bursts_found : (first : ℕ) (a b : List ℕ) → AreOctets a → AreOctets b → DifferInBurst first a b → crc32c a ≢ crc32c b
bursts_found first a b p q burst same =
    let parts = burst_of first (number_of a) (number_of b) burst.before burst.after in
    let d = bit_xor (number_of a) (number_of b) in
    let e = d / 2 ^ first in
    let remainders : remainder_from ones a ≡ remainder_from ones b =
    sym (xor_twice (remainder_from ones a) ones) ∙ ap (λ (x : ℕ). bit_xor x ones) same ∙ xor_twice (remainder_from ones b) ones in
    let none : divided (8 * length a) d ≡ 0 =
    sym (remainders_differ a b burst.same_length) ∙ ap (λ (x : ℕ). bit_xor x (remainder_from ones b)) remainders
    ∙ xor_self (remainder_from ones b) in
    let within : d < 2 ^ (8 * length a) =
    xor_lt (8 * length a) (number_of a) (number_of b) (number_of-below a p)
    (subst (λ (n : ℕ). number_of b < 2 ^ (8 * n)) (sym burst.same_length) (number_of-below b q)) in
    let some : 0 < e = elim (cases_eq e 0) [
      | inl none_left ↦ absurd (burst.differ (number_of-injective a b burst.same_length p q
          (xor_none (number_of a) (number_of b) (parts.0 ∙ ap (λ (x : ℕ). x * 2 ^ first) none_left ∙ zero-mul (2 ^ first)))))
      | inr other ↦ pos_of_ne-zero other
    ] in
    let left : 0 < divided (8 * length a) (e * 2 ^ first) =
    difference_left (8 * length a) first e some parts.1 (subst (λ (x : ℕ). x < 2 ^ (8 * length a)) parts.0 within) in
    let left_here : 0 < divided (8 * length a) d =
    subst (λ (x : ℕ). 0 < divided (8 * length a) x) (sym parts.0) left in
    absurd (omega arith)
