-- Numbers that are written in a fixed count of digits.
use Rattle.std.proofs.Common.{◌≡◌, ℕ, zero, suc, ◌+◌, ◌-◌, ◌*◌, ◌/◌, ◌%◌, ◌^◌, ◌≤◌, ◌<◌, Bool, true, false}
use Rattle.std.proofs.Common.{List, [], ◌∷◌, ◌++◌, length, Ok, refl, arith, append_assoc, length-append}
use Rattle.std.proofs.Math.Nat.{pow-suc}
use Rattle.std.specs.Char.{is_ascii_digit}
use Rattle.std.specs.List.{list_all, prefix_len}
use Rattle.std.proofs.lemmas.Bool.{and_parts, le-ltb, lt-ltb}
use Rattle.std.proofs.lemmas.Bool.Decides.{nat_tests}
use Rattle.std.proofs.lemmas.List.{take_at, drop_at}
use Rattle.mm_base.specs.Numbers.{value_after}
use Rattle.mm_utc.specs.declared.fault.MomentFault.{MomentFault}
use Rattle.mm_utc.specs.Digits.{digits_of, number_at, below_at}

-- the last of the digits
pub digits_of_more : (text : List ℕ) (count number : ℕ) → 0 < count
    → (text ++ digits_of (count - 1) (number / 10)) ++ (48 + number % 10) ∷ [] ≡ text ++ digits_of count number
unfolding digits_of
digits_of_more text zero number some = absurd (omega arith)
digits_of_more text (suc count) number some =
    let less : suc count - 1 ≡ count = omega arith in
    rw (less, append_assoc) refl

-- so many digits
pub length-digits_of : (count number : ℕ) → length (digits_of count number) ≡ count
unfolding digits_of
length-digits_of zero number = refl
length-digits_of (suc count) number =
    omega (
      arith,
      length-digits_of count (number / 10),
      length-append (digits_of count (number / 10)) ((48 + number % 10) ∷ []),
    )

-- the octet of a digit
pub digit_octet : (n : ℕ) → n < 10 → is_ascii_digit (48 + n) ≡ true
digit_octet n small = grind (arith, nat_tests)

-- a test of each element of two lists, one after the other
list_all-append : (p : ℕ → Bool) (xs ys : List ℕ) → list_all p xs ≡ true → list_all p ys ≡ true
    → list_all p (xs ++ ys) ≡ true
list_all-append p [] ys front back = back
list_all-append p (x ∷ xs) ys front back =
    let (first, rest) = and_parts (p x) (list_all p xs) front in
    rw (first, list_all-append p xs ys rest back) refl

-- digits and no other octets
pub all-digits_of : (count number : ℕ) → list_all is_ascii_digit (digits_of count number) ≡ true
unfolding digits_of
all-digits_of zero number = refl
all-digits_of (suc count) number =
    let last = digit_octet (number % 10) (omega arith) in
    list_all-append is_ascii_digit (digits_of count (number / 10)) ((48 + number % 10) ∷ [])
    (all-digits_of count (number / 10)) (rw last refl)

-- digits are read one after the other
pub value_after-append : (n : ℕ) (xs ys : List ℕ) → value_after n (xs ++ ys) ≡ value_after (value_after n xs) ys
value_after-append n [] ys = refl
value_after-append n (x ∷ xs) ys = value_after-append (n * 10 + (x - 48)) xs ys

-- the number that the digits of a number write
pub value-digits_of : (count number : ℕ) → number < 10 ^ count → value_after 0 (digits_of count number) ≡ number
unfolding digits_of
value-digits_of zero number small = omega arith
value-digits_of (suc count) number small =
    let below : number / 10 < 10 ^ count = omega (arith, pow-suc 10 count) in
    let front = value-digits_of count (number / 10) below in
    rw (value_after-append 0 (digits_of count (number / 10)) ((48 + number % 10) ∷ []), front) (omega arith)

-- the digits of a number are read as that number
pub number_again : (count number : ℕ) (rest : List ℕ) → number < 10 ^ count
    → number_at count (digits_of count number ++ rest) ≡ Ok (number, rest)
unfolding number_at
number_again count number rest small =
    let long = length-digits_of count number in
    rw (
      le-ltb (length (digits_of count number ++ rest)) count
          (omega (arith, long, length-append (digits_of count number) rest)),
      take_at (digits_of count number) rest count long,
      drop_at (digits_of count number) rest count long,
      all-digits_of count number,
      value-digits_of count number small,
    )
    refl

-- the same for two digits with a bound
pub below_again : (bound : ℕ) (fault : MomentFault) (number : ℕ) (rest : List ℕ) → number < bound → bound ≤ 100
    → below_at bound fault (digits_of 2 number ++ rest) ≡ Ok (number, rest)
unfolding below_at
below_again bound fault number rest small two =
    let fits : number < 10 ^ 2 = omega arith in
    rw (number_again 2 number rest fits, lt-ltb number bound small) refl

-- the front of a list, which ends at the first element that fails the test
pub prefix_len-append : (p : ℕ → Bool) (xs rest : List ℕ) (x : ℕ) → list_all p xs ≡ true → p x ≡ false
    → prefix_len p (xs ++ (x ∷ rest)) ≡ length xs
prefix_len-append p [] rest x all fails = rw fails refl
prefix_len-append p (y ∷ ys) rest x all fails =
    let (first, others) = and_parts (p y) (list_all p ys) all in
    rw (first, prefix_len-append p ys rest x others fails) (omega arith)
