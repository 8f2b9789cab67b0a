-- A text is read as a number if and only if the number is printed as that text.
use Rattle.std.proofs.Common.{◌≡◌, ℕ, ◌^◌, ◌<◌, ◌≤◌, ◌==◌, nat_le, zero, suc, true, not, ◌&&◌, List, [], ◌∷◌, length}
use Rattle.std.proofs.Common.{get_or, refl, sym, ap, ◌∙◌, arith, inl, inr}
use Rattle.std.specs.Char.{is_ascii_digit}
use Rattle.std.specs.Fmt.{decimal}
use Rattle.std.specs.List.{list_all}
use Rattle.std.specs.Str.{all_ascii_digits}
use Rattle.std.proofs.lemmas.Bool.{and_parts, cases_Bool, false≢true}
use Rattle.std.proofs.lemmas.Bool.Decides.{Decides-eqb, nat_tests}
use Rattle.std.proofs.lemmas.Fmt.{digits_decimal, digits_value-decimal, decimal-digits_value, decimal_nonempty}
use Rattle.std.proofs.lemmas.Fmt.{decimal_digit, first_decimal}
use Rattle.std.proofs.lemmas.Str.Parse.{IsNumeralModel, numerals_by_fold, tells_all_ascii_digits}
use Rattle.mm_base.specs.declared.numbers.Numeral.TheVariants.{Number}
use Rattle.mm_base.specs.Numbers.{numeral_within, numeral_of, is_number, value_after}
use Rattle.mm_base.proofs.IdFields.{Decides-nat_le}

-- the text is read as this number, within the bound
abbrev pub IsNumeral : ℕ → List ℕ → ℕ → Type 0
IsNumeral most text n = numeral_of most text ≡ Number n

-- a result that is a number was within the bound
within_said : (most v n : ℕ) → numeral_within most v ≡ Number n → (v ≡ n) × (n ≤ most)
within_said most v n h = elim (cases_Bool (nat_le v most)) [
  | inl fits ↦ (let given = rw fits at h in let same : v ≡ n = cc in let below : v ≤ most =
      grind (arith, nat_tests) in (same, omega arith))
  | inr passes ↦ absurd (let refused = rw passes at h in cc)
]

-- a text that is a number, by its characters
pub numeral_said : (most : ℕ) (text : List ℕ) (n : ℕ) → IsNumeral most text n
    → (is_number text ≡ true) × (value_after 0 text ≡ n) × (n ≤ most)
numeral_said most text n h = elim (cases_Bool (is_number text)) [
  | inl number ↦ (let value = within_said most (value_after 0 text) n (rw number at h) in (number, value.0, value.1))
  | inr other ↦ absurd (let refused = rw other at h in cc)
]

-- the value of digits is that of std's definition
own : IsNumeralModel (λ ds. all_ascii_digits ds ≡ true) (value_after 0)
own = numerals_by_fold (λ ds. all_ascii_digits ds ≡ true) tells_all_ascii_digits value_after
    (record { empty = λ n. refl; more = λ n c cs digit. refl })

-- the test of digits by octets and the one by characters are the same
list_all_digits : (ds : List ℕ) → list_all is_ascii_digit ds ≡ all_ascii_digits ds
list_all_digits [] = refl
list_all_digits (c ∷ cs) = ap (λ b. is_ascii_digit c && b) (list_all_digits cs)

-- the text of a number, by std's definition
record IsNumberText (text : List ℕ) : Type 0 where
  digits : all_ascii_digits text ≡ true
  some : 0 < length text
  first : get_or text 0 0 ≡ 48 → length text ≡ 1

-- a text that passes the test is that of a number
is_number_said : (text : List ℕ) → is_number text ≡ true → IsNumberText text
is_number_said [] h = absurd (false≢true h)
is_number_said (c ∷ []) h = record { digits = rw h refl; some = omega arith; first = λ _. refl }
is_number_said (c ∷ d ∷ cs) h =
    let (front, digits) = and_parts (not (c == 48)) (list_all is_ascii_digit (c ∷ d ∷ cs)) h in
    record {
      digits = sym (list_all_digits (c ∷ d ∷ cs)) ∙ digits;
      some = omega arith;
      first = λ zero_first. absurd (false≢true (rw ((Decides-eqb c 48).1 zero_first) at front));
    }

-- the text of a number passes the test
is_number_read : (text : List ℕ) → IsNumberText text → is_number text ≡ true
is_number_read [] h = let some = h.some in absurd (omega arith)
is_number_read (c ∷ []) h = (and_parts (is_ascii_digit c) true h.digits).0
is_number_read (c ∷ d ∷ cs) h = elim (cases_Bool (c == 48)) [
  | inl zero_first ↦ (let one : suc (suc (length cs)) ≡ 1 =
      h.first ((Decides-eqb c 48).0 zero_first) in absurd (omega arith))
  | inr other ↦ rw (other, list_all_digits cs) h.digits
]

-- a printed number begins with 0 only where it is 0
decimal_first : (n : ℕ) → n < 2 ^ 64 → get_or (decimal n) 0 0 ≡ 48 → length (decimal n) ≡ 1
decimal_first zero below zero_first = ap length (decimal_digit 0 (omega arith))
decimal_first (suc n) below zero_first = absurd (omega (arith, first_decimal (suc n) (omega arith) below))

-- a text that is a number is what the number is printed as
pub numeral_printed : (most : ℕ) (text : List ℕ) (n : ℕ) → most < 2 ^ 64 → IsNumeral most text n
    → (text ≡ decimal n) × (n ≤ most)
numeral_printed most text n narrow h =
    let (number, value, below) = numeral_said most text n h in
    let t = is_number_said text number in
    let fits : value_after 0 text < 2 ^ 64 = omega arith in
    (sym (decimal-digits_value own text t.digits t.some t.first fits) ∙ ap decimal value, below)

-- what a number is printed as is that number
pub printed_numeral : (most n : ℕ) → most < 2 ^ 64 → n ≤ most → IsNumeral most (decimal n) n
printed_numeral most n narrow below =
    let fits : n < 2 ^ 64 = omega arith in
    let number = is_number_read (decimal n)
    (record { digits = digits_decimal own n fits; some = decimal_nonempty n fits; first = decimal_first n fits }) in
    rw (number, digits_value-decimal own n fits, (Decides-nat_le n most).1 below) refl
