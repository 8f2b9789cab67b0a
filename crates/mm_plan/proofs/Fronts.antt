-- Numbers read digit by digit, as they are printed.
use Rattle.std.proofs.Common.{◌≡◌, ℕ, ◌+◌, ◌-◌, ◌*◌, ◌/◌, ◌%◌, ◌^◌, ◌<◌, ◌≤◌, List, [], ◌∷◌, ◌++◌, length, get_or, take, drop, true, ap, sym, ◌∙◌, arith, append_assoc}
use Rattle.std.specs.Prelude.{decimal}
use Rattle.std.specs.Char.{is_ascii_digit}
use Rattle.std.proofs.lemmas.Bool.Decides.{nat_tests}
use Rattle.std.proofs.lemmas.Fmt.{decimal_digit, decimal_step}
use Rattle.std.proofs.lemmas.List.{take_all}

-- a digit is between those of 0 and 9
digit_within : (c : ℕ) → is_ascii_digit c ≡ true → (48 ≤ c) × (c ≤ 57)
digit_within c is = (grind (arith, nat_tests), grind (arith, nat_tests))

-- a text with its first octet apart
pub front_split : (text : List ℕ) → 1 ≤ length text → text ≡ get_or text 0 0 ∷ take (length text - 1) (drop 1 text)
front_split [] some = absurd (omega arith)
front_split (x ∷ xs) some = ap (λ ys. x ∷ ys) (sym (take_all (length (x ∷ xs) - 1) xs (omega arith)))

-- one digit is the decimal of its number
pub one_digit : (c n : ℕ) (text rest : List ℕ) → text ≡ c ∷ rest → true ≡ is_ascii_digit c → n ≡ c - 48 → text ≡ decimal n ++ rest
one_digit c n text rest begins is number =
    let within = digit_within c (sym is) in
    let back : 48 + n ≡ c = omega (arith, within.0) in
    begins ∙ ap (λ d. d ∷ rest) (sym back) ∙ ap (λ ds. ds ++ rest) (sym (decimal_digit n (omega (arith, within.1))))

-- one digit more
pub digit_more : (n c d : ℕ) (text rest after : List ℕ) → 0 < n → n < 2 ^ 32 → true ≡ is_ascii_digit c → d ≡ c - 48 → rest ≡ c ∷ after → text ≡ decimal n ++ rest → text ≡ decimal (n * 10 + d) ++ after
digit_more n c d text rest after some small is digit begins so_far =
    let within = digit_within c (sym is) in
    let m = n * 10 + d in
    let front : m / 10 ≡ n = omega (arith, within.0, within.1) in
    let last : 48 + m % 10 ≡ c = omega (arith, within.0, within.1) in
    let step = decimal_step m (omega arith) (omega (arith, within.1)) in
    so_far ∙ ap (λ r. decimal n ++ r) begins ∙ sym (append_assoc (decimal n) (c ∷ []) after) ∙ ap (λ ds. ds ++ after) (sym (rw (front, last) at step))
