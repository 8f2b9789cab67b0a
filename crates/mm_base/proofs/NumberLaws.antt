-- The value of digits, which are read from the first to the last.
use Rattle.std.proofs.Common.{◌≡◌, ℕ, zero, suc, ◌+◌, ◌-◌, ◌*◌, ◌^◌, ◌<◌, ◌≤◌, List, [], ◌∷◌, length, get_or, drop}
use Rattle.std.proofs.Common.{Option, Some, None, cond, nat_le, true, false, inl, inr, add-one, subst, sym, ◌∙◌, refl}
use Rattle.std.proofs.Common.{arith}
use Rattle.std.proofs.lemmas.Bool.{cases_Bool}
use Rattle.std.proofs.lemmas.Bool.Decides.{nat_tests}
use Rattle.std.proofs.lemmas.List.{drop_more, drop_all}
use Rattle.std.proofs.Math.Nat.{pow-suc}
use Rattle.std.specs.Char.{is_ascii_digit}
use Rattle.mm_base.specs.Numbers.{value_after, digits_number, numeral_within}
use Rattle.mm_base.specs.declared.numbers.Numeral.TheVariants.{TooLarge}

-- appending digits makes a number no smaller
value_after_grows : (n : ℕ) (digits : List ℕ) → n ≤ value_after n digits
value_after_grows n [] = omega arith
value_after_grows n (c ∷ cs) = omega (arith, value_after_grows (n * 10 + (c - 48)) cs)

-- the digit at an index
pub value_after_more : (n i digit : ℕ) (digits : List ℕ) → i < length digits → digit ≡ get_or digits i 0
    → value_after n (drop i digits) ≡ value_after (n * 10 + (digit - 48)) (drop (i + 1) digits)
value_after_more n i digit digits within is = rw (drop_more digits i 0 within, ← is) refl

-- after the last digit the number is whole
pub value_after_all : (n i : ℕ) (digits : List ℕ) → length digits ≤ i → value_after n (drop i digits) ≡ n
value_after_all n i digits past = rw (drop_all i digits past) refl

-- if one more digit takes the number above the bound, the whole number is too large
pub too_large : (n i digit most v : ℕ) (digits : List ℕ) → i < length digits → digit ≡ get_or digits i 0
    → ◌≡◌ {A = Option ℕ} None (cond (nat_le (n * 10 + (digit - 48)) most) (Some (n * 10 + (digit - 48))) None)
    → value_after n (drop i digits) ≡ v → TooLarge ≡ numeral_within most v
too_large n i digit most v digits within is none left =
    let next : ℕ = n * 10 + (digit - 48) in
    let above : next ≤ v = subst (λ x. next ≤ x) (sym (value_after_more n i digit digits within is) ∙ left)
    (value_after_grows next (drop (i + 1) digits)) in
    elim (cases_Bool (nat_le next most)) [
      | inl fits ↦ absurd (let given = rw fits at none in cc)
      | inr passes ↦ (let refused : nat_le v most ≡ false = grind (arith, nat_tests) in rw refused refl)
    ]

-- the digit at an index, where it is one
pub digits_more : (n i digit : ℕ) (digits : List ℕ) → i < length digits → digit ≡ get_or digits i 0 → is_ascii_digit
    digit ≡ true → digits_number n (drop i digits) ≡ digits_number (n * 10 + (digit - 48)) (drop (i + 1) digits)
digits_more n i digit digits within is test = rw (drop_more digits i 0 within, ← is, test) refl

-- a character that is not a digit ends the reading
pub no_digit : (n i digit : ℕ) (digits : List ℕ) → i < length digits → digit ≡ get_or digits i 0
    → is_ascii_digit digit ≡ false → digits_number n (drop i digits) ≡ None
no_digit n i digit digits within is test = rw (drop_more digits i 0 within, ← is, test) refl

-- after the last digit the number is whole
pub digits_all : (n i : ℕ) (digits : List ℕ) → length digits ≤ i → digits_number n (drop i digits) ≡ Some n
digits_all n i digits past = rw (drop_all i digits past) refl

-- a power of ten grows with its exponent
tens_grow : (i k more : ℕ) → k ≡ i + more → 10 ^ i ≤ 10 ^ k
tens_grow i k zero is = let same : k ≡ i = omega (arith, is) in rw same (omega arith)
tens_grow i k (suc more) is =
    let next : k ≡ suc (i + more) = omega (arith, is) in
    rw next (omega (arith, tens_grow i (i + more) more refl, pow-suc 10 (i + more)))

-- a number of at most eighteen digits can take one more digit
pub has_room : (n i most : ℕ) → n < 10 ^ i → i < most → most ≤ 19 → n < 10 ^ 18
has_room n i most below before short = omega (arith, below, tens_grow i 18 (18 - i) (omega (arith, before, short)))

-- one more digit keeps the number below the next power of ten
pub more_digits : (n i digit : ℕ) → n < 10 ^ i → digit < 10 → n * 10 + digit < 10 ^ (i + 1)
more_digits n i digit below small = rw add-one (omega (arith, below, small, pow-suc 10 i))
