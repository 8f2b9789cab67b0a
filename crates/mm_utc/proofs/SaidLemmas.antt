-- What is read is written so.
use Rattle.std.proofs.Common.{◌≡◌, ℕ, zero, suc, ◌+◌, ◌-◌, ◌*◌, ◌/◌, ◌%◌, ◌^◌, ◌≤◌, ◌<◌, nat_le, nat_lt, ◌&&◌, Bool}
use Rattle.std.proofs.Common.{true, false, inl, inr, List, [], ◌∷◌, ◌++◌, length, take, drop, get_or, Ok, Result}
use Rattle.std.proofs.Common.{refl, sym, ◌∙◌, ap, subst, arith}
use Rattle.std.specs.Char.{is_ascii_digit}
use Rattle.std.specs.List.{list_all}
use Rattle.std.proofs.Math.Nat.{pow-suc}
use Rattle.std.proofs.Math.Seq.{take-length}
use Rattle.std.proofs.lemmas.Bool.{and_parts, cases_Bool}
use Rattle.std.proofs.lemmas.Bool.Decides.{Decides-eqb, nat_tests}
use Rattle.std.proofs.lemmas.List.{take_more, take-append-drop, length-take-le}
use Rattle.std.proofs.lemmas.List.Folds.{list_all-append}
use Rattle.mm_base.specs.Numbers.{value_after}
use Rattle.mm_base.specs.Reading.{◌>>=◌, test}
use Rattle.mm_base.proofs.IdFields.{Decides-nat_le}
use Rattle.mm_base.proofs.ReadingSteps.{bind_ok, cond_ok, ok_same}
use Rattle.mm_utc.specs.Digits.{digits_of, number_at, below_at, after, at_end}
use Rattle.mm_utc.specs.declared.fault.MomentFault.{MomentFault}
use Rattle.mm_utc.proofs.DigitLemmas.{value_after-append}

-- an octet that is a digit
digit_said : (octet : ℕ) → is_ascii_digit octet ≡ true → (48 ≤ octet) × (octet ≤ 57)
digit_said octet h =
    let (low, high) = and_parts (nat_le 48 octet) (nat_le octet 57) h in
    ((Decides-nat_le 48 octet).0 low, (Decides-nat_le octet 57).0 high)

-- digits are those of the number that they write
pub digits_said : (count : ℕ) (digits : List ℕ) → length digits ≡ count → list_all is_ascii_digit digits ≡ true
    → (digits_of count (value_after 0 digits) ≡ digits) × (value_after 0 digits < 10 ^ count)
unfolding digits_of
digits_said zero [] long all = (refl, omega arith)
digits_said zero (d ∷ ds) long all = absurd (omega arith)
digits_said (suc count) digits long all =
    let front = take count digits in
    let last = get_or digits count 0 in
    let within : count < length digits = omega arith in
    let whole : count + 1 ≡ length digits = omega arith in
    let parts : digits ≡ front ++ (last ∷ []) =
    sym (ap (λ n. take n digits) whole ∙ take-length digits) ∙ take_more digits count 0 within in
    let tests = list_all-append is_ascii_digit front (last ∷ []) in
    let (all_front, is_last) = and_parts (list_all is_ascii_digit front) (is_ascii_digit last && true)
    (sym tests ∙ (ap (λ ds. list_all is_ascii_digit ds) (sym parts) ∙ all)) in
    let (is_digit, end) = and_parts (is_ascii_digit last) true is_last in
    let (low, high) = digit_said last is_digit in
    let short : count ≤ length digits = omega arith in
    let (again, small) = digits_said count front (length-take-le count digits short) all_front in
    let before = value_after 0 front in
    let value : value_after 0 digits ≡ before * 10 + (last - 48) =
    ap (value_after 0) parts ∙ value_after-append 0 front (last ∷ []) in
    let quotient : (before * 10 + (last - 48)) / 10 ≡ before = omega arith in
    let rest : 48 + (before * 10 + (last - 48)) % 10 ≡ last = omega arith in (
      rw (value, quotient, again, rest) (sym parts),
      rw value (omega (arith, pow-suc 10 count)),
    )

-- a number that was read
pub number_said : (count : ℕ) (text : List ℕ) (n : ℕ) (rest : List ℕ) → number_at count text ≡ Ok (n, rest)
    → (text ≡ digits_of count n ++ rest) × (n < 10 ^ count)
unfolding number_at
number_said count text n rest h = elim (cases_Bool (nat_lt (length text) count)) [
  | inl short ↦ absurd (let refused = rw short at h in cc)
  | inr long ↦ elim (cases_Bool (list_all is_ascii_digit (take count text))) [
    | inl all ↦ (
        let read = rw (long, all) at h in
        let same = ok_same _ _ read in
        let value : value_after 0 (take count text) ≡ n = ap (λ (x : ℕ × List ℕ). x.0) same in
        let left : drop count text ≡ rest = ap (λ (x : ℕ × List ℕ). x.1) same in
        let fits : count ≤ length text = grind (arith, nat_tests) in
        let (again, small) = digits_said count (take count text) (length-take-le count text fits) all in
        (rw (← value, ← left, again) (sym (take-append-drop count text)), rw (← value) small)
        )
    | inr other ↦ absurd (let refused = rw (long, other) at h in cc)
  ]
]

-- an octet that was read
pub after_said : (octet : ℕ) (text rest : List ℕ) → after octet text ≡ Ok rest → text ≡ octet ∷ rest
after_said octet [] rest h = absurd (cc)
after_said octet (c ∷ cs) rest h =
    let (test, same) = cond_ok _ _ _ _ h in
    let is : c ≡ octet = (Decides-eqb c octet).0 test in
    rw (is, same) refl

-- nothing followed
pub at_end_said : (text : List ℕ) (u : Unit {0}) → at_end text ≡ Ok u → text ≡ []
at_end_said [] u h = refl
at_end_said (c ∷ cs) u h = absurd (cc)

-- a test that was passed, and what followed
pub test_said : {F A : Type 0} (b : Bool) (fault : F) (next : Result A F) (y : A) → (test b fault >>= λ _. next) ≡ Ok y
    → (b ≡ true) × (next ≡ Ok y)
test_said true fault next y h = (refl, h)
test_said false fault next y h = absurd (cc)

-- a number below a bound that was read
pub below_said : (bound : ℕ) (fault : MomentFault) (text : List ℕ) (n : ℕ) (rest : List ℕ)
    → below_at bound fault text ≡ Ok (n, rest) → (text ≡ digits_of 2 n ++ rest) × (n < bound)
unfolding below_at
below_said bound fault text n rest h =
    let (number, read, h1) = bind_ok _ _ _ h in
    let (test, last) = test_said (nat_lt number.0 bound) fault (Ok number) (n, rest) h1 in
    let (spelled, small) = number_said 2 text number.0 number.1 read in
    let below : number.0 < bound = grind (arith, nat_tests) in
    subst (λ (x : ℕ × List ℕ). (text ≡ digits_of 2 x.0 ++ x.1) × (x.0 < bound)) (ok_same _ _ last) (spelled, below)
