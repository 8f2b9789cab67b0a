-- Words, joined and cut.
use Rattle.std.proofs.Common.{◌≡◌, ℕ, ◌-◌, ◌<◌, ◌≤◌, true, false, not, ◌&&◌, ◌==◌, List, [], ◌∷◌, length, ℤ, pos}
use Rattle.std.proofs.Common.{negsuc, suc, ap, ◌∙◌, arith}
use Rattle.std.specs.Prelude.{All, IsTrue, decimal, nat_lt, ◌^◌, FitsSigned}
use Rattle.std.specs.Fmt.{signed_decimal}
use Rattle.std.specs.Int.{w64}
use Rattle.std.specs.List.{list_all, slice_split, join_with_byte}
use Rattle.std.specs.Char.{is_ascii_digit}
use Rattle.std.proofs.lemmas.Bool.{and_parts, false≢true}
use Rattle.std.proofs.lemmas.Bool.Decides.{nat_tests}
use Rattle.std.proofs.lemmas.List.Elements.{All-nil, All-cons, All-head, All-tail, All-append, All-weaker}
use Rattle.std.proofs.lemmas.List.Splits.{slice_split_none, slice_split_at}
use Rattle.std.proofs.lemmas.List.Sums.{AllPass-from_list_all}
use Rattle.mm_base.specs.Id.{is_id_char, IsIdField, id_text}
use Rattle.mm_base.specs.Numbers.{is_number}
use Rattle.mm_base.proofs.NumberTexts.{numeral_said, printed_numeral}

-- the octet does not stand in it
abbrev pub Lacks : ℕ → List ℕ → Type 0
Lacks c w = All (λ b. (b == c) ≡ false) w

-- printable characters alone, and no space
abbrev pub IsBare : List ℕ → Type 0
IsBare w = All (λ b. 32 < b) w

-- a printable character is no white space
above_is_other : (c b : ℕ) → c ≤ 32 → 32 < b → (b == c) ≡ false
above_is_other c b low high = grind (arith, nat_tests)

-- what is bare has no white space
pub bare_lacks : (c : ℕ) → c ≤ 32 → (w : List ℕ) → IsBare w → Lacks c w
bare_lacks c low w h = All-weaker (λ b. 32 < b) (λ b. (b == c) ≡ false) (λ b. above_is_other c b low) w h

-- what passes the test is printable
passes_above : (b : ℕ) → nat_lt 32 b ≡ true → 32 < b
passes_above b e = grind (arith, nat_tests)

-- a tested word is bare
pub bare_tested : (w : List ℕ) → list_all (λ b. nat_lt 32 b) w ≡ true → IsBare w
bare_tested w e =
    All-weaker (λ b. IsTrue (nat_lt 32 b)) (λ b. 32 < b) passes_above w (AllPass-from_list_all (λ b. nat_lt 32 b) w e)

-- a digit is printable
digit_above : (c : ℕ) → is_ascii_digit c ≡ true → 32 < c
digit_above c e = grind (arith, nat_tests)

-- digits are bare
bare_digits : (w : List ℕ) → list_all is_ascii_digit w ≡ true → IsBare w
bare_digits w e =
    All-weaker (λ c. IsTrue (is_ascii_digit c)) (λ b. 32 < b) digit_above w (AllPass-from_list_all is_ascii_digit w e)

-- a number is digits
number_digits : (w : List ℕ) → is_number w ≡ true → list_all is_ascii_digit w ≡ true
number_digits [] e = absurd (false≢true e)
number_digits (c ∷ []) e = ap (λ b. b && true) e
number_digits (c ∷ d ∷ cs) e = (and_parts (not (c == 48)) (list_all is_ascii_digit (c ∷ d ∷ cs)) e).1

-- decimals are bare
pub bare_decimal : (n : ℕ) → n < 2 ^ 64 → IsBare (decimal n)
bare_decimal n small =
    let most = 2 ^ 64 - 1 in
    let is = numeral_said most (decimal n) n (printed_numeral most n (omega arith) (omega arith)) in
    bare_digits (decimal n) (number_digits (decimal n) is.0)

-- signed decimals are bare
pub bare_signed : (z : ℤ) → FitsSigned w64 z → IsBare (signed_decimal z)
bare_signed (pos n) fits =
    let small : n < 2 ^ 63 = fits.sfits in
    bare_decimal n (omega arith)
bare_signed (negsuc n) fits =
    let small : n < 2 ^ 63 = fits.sfits in
    All-cons (λ b. 32 < b) 45 (decimal (suc n)) (omega arith) (bare_decimal (suc n) (omega arith))

-- a character of an identifier is printable
id_char_above : (c : ℕ) → is_id_char c ≡ true → 32 < c
id_char_above c e = grind (arith, nat_tests)

-- the text of an identifier is bare
pub bare_id : (f : List ℕ) → IsIdField f → IsBare (id_text f)
bare_id f h = All-weaker (λ c. IsTrue (is_id_char c)) (λ b. 32 < b) id_char_above (id_text f) h.text.each

-- the words come back from the joined text
pub slice_split-join : (c : ℕ) (ws : List (List ℕ)) → 1 ≤ length ws → All (Lacks c) ws
    → slice_split (λ b. b == c) (join_with_byte c ws) ≡ ws
slice_split-join c [] some h = absurd (omega arith)
slice_split-join c (w ∷ []) some h = slice_split_none (λ b. b == c) w (All-head (Lacks c) w [] h)
slice_split-join c (w ∷ v ∷ ws) some h =
    let same : (c == c) ≡ true = grind (arith, nat_tests) in
    slice_split_at (λ b. b == c) w c (join_with_byte c (v ∷ ws)) (All-head (Lacks c) w (v ∷ ws) h) same
    ∙ ap (λ ps. w ∷ ps) (slice_split-join c (v ∷ ws) (omega arith) (All-tail (Lacks c) w (v ∷ ws) h))

-- what stands neither in the words nor between them
pub join_lacks : (c d : ℕ) → (d == c) ≡ false → (ws : List (List ℕ)) → All (Lacks c) ws → Lacks c (join_with_byte d ws)
join_lacks c d other [] h = All-nil (λ b. (b == c) ≡ false)
join_lacks c d other (w ∷ []) h = All-head (Lacks c) w [] h
join_lacks c d other (w ∷ v ∷ ws) h =
    All-append (λ b. (b == c) ≡ false) w (d ∷ join_with_byte d (v ∷ ws)) (All-head (Lacks c) w (v ∷ ws) h)
    (All-cons (λ b. (b == c) ≡ false) d (join_with_byte d (v ∷ ws)) other
    (join_lacks c d other (v ∷ ws) (All-tail (Lacks c) w (v ∷ ws) h)))
