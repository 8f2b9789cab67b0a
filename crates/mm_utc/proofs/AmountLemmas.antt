-- A text is read as a number and a unit if and only if it writes them.
use Rattle.std.proofs.Common.{◌≡◌, ℕ, zero, suc, ◌+◌, ◌^◌, ◌≤◌, ◌<◌, ◌==◌, nat_le, nat_lt, not}
use Rattle.std.proofs.Common.{Bool, true, false, inl, inr, List, [], ◌∷◌, ◌++◌, length, take, drop, Option}
use Rattle.std.proofs.Common.{Some, None, Ok, Result, refl, sym, ◌∙◌, ap, subst, arith, append_assoc}
use Rattle.std.specs.Prelude.{codes}
use Rattle.std.specs.Char.{is_ascii_digit}
use Rattle.std.specs.Fmt.{decimal}
use Rattle.std.specs.List.{list_all, prefix_len, find}
use Rattle.std.specs.Str.{bytes_eq}
use Rattle.std.proofs.Math.ListN.{replicate}
use Rattle.std.proofs.lemmas.Bool.{and_parts, cases_Bool, le-ltb}
use Rattle.std.proofs.lemmas.Bool.Decides.{Decides-eqb, nat_tests}
use Rattle.std.proofs.lemmas.List.{take_at, drop_at, take-append-drop, length-take-le, length-replicate}
use Rattle.std.proofs.lemmas.List.Sums.{prefix_len-le-length}
use Rattle.std.proofs.lemmas.Slice.Eq.{bytes_eq-Decides}
use Rattle.std.specs.Option.{ok_or}
use Rattle.mm_base.specs.Characters.{space}
use Rattle.mm_base.specs.Reading.{◌>>=◌}
use Rattle.mm_base.specs.Numbers.{is_number, numeral_of, value_after}
use Rattle.mm_base.specs.declared.numbers.Numeral.{Numeral}
use Rattle.mm_base.specs.declared.numbers.Numeral.TheVariants as numerals
use Rattle.mm_base.proofs.NumberTexts.{numeral_said, numeral_printed, printed_numeral}
use Rattle.mm_base.proofs.ReadingSteps.{bind_ok, ok_same}
use Rattle.mm_utc.specs.Amounts.{digit_count, numbered, whole_at, decimals_at, over_at, continued_at, ratio_at, name_in}
use Rattle.mm_utc.specs.Amounts.{or_unwritten, measured_in, volume_in, rate_in}
use Rattle.mm_utc.specs.Digits.{digits_of}
use Rattle.mm_utc.specs.Units.{Row, units, unit_named}
use Rattle.mm_utc.specs.Writings.{Number, integer, decimals, quotient, IsNumber, number_text, ratio_of, Measures}
use Rattle.mm_utc.specs.Writings.{WritesVolume, WritesRate}
use Rattle.mm_utc.specs.declared.amount.Rate.{Rate}
use Rattle.mm_utc.specs.declared.amount.Volume.{Volume}
use Rattle.mm_utc.specs.declared.fault.AmountFault.{AmountFault}
use Rattle.mm_utc.specs.declared.fault.AmountFault.TheVariants.{NoSuchUnit}
use Rattle.mm_utc.specs.declared.fraction.Fraction.{Fraction}
use Rattle.mm_utc.specs.declared.fraction.Ratio.{Ratio}
use Rattle.mm_utc.specs.declared.fraction.TheConstants.{MOST}
use Rattle.mm_utc.proofs.DigitLemmas.{all-digits_of, length-digits_of, value-digits_of}
use Rattle.mm_utc.proofs.SaidLemmas.{digits_said}

-- the front of a list that passes, before elements of which the first does not
prefix_len-stop : (p : ℕ → Bool) (xs rest : List ℕ) → list_all p xs ≡ true → prefix_len p rest ≡ 0
    → prefix_len p (xs ++ rest) ≡ length xs
prefix_len-stop p [] rest all stop = stop
prefix_len-stop p (x ∷ xs) rest all stop =
    let (first, others) = and_parts (p x) (list_all p xs) all in
    rw (first, prefix_len-stop p xs rest others stop) (omega arith)

-- the front of a list passes
all-prefix : (p : ℕ → Bool) (xs : List ℕ) → list_all p (take (prefix_len p xs) xs) ≡ true
all-prefix p [] = refl
all-prefix p (x ∷ xs) = elim (cases_Bool (p x)) [
  | inl passes ↦ (
      let more : 1 + prefix_len p xs ≡ suc (prefix_len p xs) = omega arith in
      rw (passes, more, passes) (all-prefix p xs)
      )
  | inr fails ↦ rw fails refl
]

-- a number has digits alone
number_digits : (text : List ℕ) → is_number text ≡ true → list_all is_ascii_digit text ≡ true
number_digits [] h = refl
number_digits (c ∷ []) h = rw h refl
number_digits (c ∷ d ∷ cs) h = (and_parts (not (c == 48)) (list_all is_ascii_digit (c ∷ d ∷ cs)) h).1

-- a whole number is read
whole_read : (n : ℕ) (rest : List ℕ) → n ≤ MOST → digit_count rest ≡ 0 → whole_at (decimal n ++ rest) ≡ Ok (n, rest)
unfolding whole_at
whole_read n rest within stop =
    let narrow : MOST < 2 ^ 64 = omega arith in
    let is = printed_numeral MOST n narrow within in
    let all = number_digits (decimal n) (numeral_said MOST (decimal n) n is).0 in
    let count = prefix_len-stop is_ascii_digit (decimal n) rest all stop in
    rw (
      count,
      take_at (decimal n) rest (length (decimal n)) refl,
      drop_at (decimal n) rest (length (decimal n)) refl,
      is,
    )
    refl

-- a numeral that was a number
numbered_said : (left : List ℕ) (numeral : Numeral) (n : ℕ) (rest : List ℕ) → numbered left numeral ≡ Ok (n, rest)
    → (numeral ≡ numerals.Number n) × (left ≡ rest)
numbered_said left (numerals.Number m) n rest h =
    let same = ok_same _ _ h in
    (ap (λ (x : ℕ × List ℕ). numerals.Number x.0) same, ap (λ (x : ℕ × List ℕ). x.1) same)
numbered_said left numerals.TooLarge n rest h = absurd (cc)
numbered_said left numerals.NotNumber n rest h = absurd (cc)

-- a whole number that was read
whole_said : (text : List ℕ) (n : ℕ) (rest : List ℕ) → whole_at text ≡ Ok (n, rest)
    → (text ≡ decimal n ++ rest) × (n ≤ MOST)
unfolding whole_at
whole_said text n rest h =
    let count = digit_count text in
    let narrow : MOST < 2 ^ 64 = omega arith in
    let (is, left) = numbered_said (drop count text) (numeral_of MOST (take count text)) n rest h in
    let (digits, within) = numeral_printed MOST (take count text) n narrow is in
    let front = ap (λ xs. xs ++ drop count text) digits ∙ ap (λ xs. decimal n ++ xs) left in
    (sym (take-append-drop count text) ∙ front, within)

-- decimals are read
decimals_read : (n count parts : ℕ) (rest : List ℕ) → 1 ≤ count → count ≤ 15 → parts < 10 ^ count
    → digit_count rest ≡ 0
    → decimals_at n (digits_of count parts ++ rest) ≡ Ok (ratio_of (decimals n count parts), rest)
unfolding decimals_at
decimals_read n count parts rest some few small stop =
    let long = length-digits_of count parts in
    let so_many = prefix_len-stop is_ascii_digit (digits_of count parts) rest (all-digits_of count parts) stop ∙ long in
    let other : (count == 0) ≡ false = grind (arith, nat_tests) in
    let within = le-ltb 15 count few in
    rw (
      so_many,
      other,
      within,
      take_at (digits_of count parts) rest count long,
      drop_at (digits_of count parts) rest count long,
      all-digits_of count parts,
      value-digits_of count parts small,
    )
    refl

-- a number that was read, with the text before it
record IsReadNumber (text : List ℕ) (ratio : Ratio) (rest : List ℕ) : Type 0 where
  number : Number
  exists : IsNumber number
  spelled : text ≡ number_text number ++ rest
  value : ratio_of number ≡ ratio

-- the two parts of a number, put together
joined : (first second text rest : List ℕ) (octet : ℕ) → text ≡ second ++ rest
    → first ++ (octet ∷ text) ≡ (first ++ (octet ∷ second)) ++ rest
joined first second text rest octet is = rw is (simp append_assoc)

-- decimals that were read
decimals_said : (n : ℕ) (text : List ℕ) (ratio : Ratio) (rest : List ℕ) → n ≤ MOST
    → decimals_at n text ≡ Ok (ratio, rest) → IsReadNumber (decimal n ++ (46 ∷ text)) ratio rest
unfolding decimals_at
decimals_said n text ratio rest within h =
    let count = digit_count text in
    elim (cases_Bool (count == 0)) [
      | inl none ↦ absurd (let refused = rw none at h in cc)
      | inr some ↦ elim (cases_Bool (nat_lt 15 count)) [
        | inl many ↦ absurd (let refused = rw (some, many) at h in cc)
        | inr few ↦ (
            let all = all-prefix is_ascii_digit text in
            let same = ok_same _ _ (rw (some, few, all) at h) in
            let long = length-take-le count text (prefix_len-le-length is_ascii_digit text) in
            let (again, small) = digits_said count (take count text) long all in
            let parts = value_after 0 (take count text) in
            let left : drop count text ≡ rest = ap (λ (x : Ratio × List ℕ). x.1) same in
            let spelled : text ≡ digits_of count parts ++ rest =
            sym (take-append-drop count text) ∙ ap (λ xs. xs ++ drop count text) (sym again)
            ∙ ap (λ xs. digits_of count parts ++ xs) left in
            let at_least : 1 ≤ count = grind (arith, nat_tests) in
            let at_most : count ≤ 15 = grind (arith, nat_tests) in
            record {
              number = decimals n count parts;
              exists = (within, at_least, at_most, small);
              spelled = joined (decimal n) (digits_of count parts) text rest 46 spelled;
              value = ap (λ (x : Ratio × List ℕ). x.0) same;
            }
            )
      ]
    ]

-- a number over another that was read
over_said : (n : ℕ) (text : List ℕ) (ratio : Ratio) (rest : List ℕ) → n ≤ MOST → over_at n text ≡ Ok (ratio, rest)
    → IsReadNumber (decimal n ++ (47 ∷ text)) ratio rest
unfolding over_at
over_said n text ratio rest within h =
    let (below, read, last) = bind_ok _ _ _ h in
    let same = ok_same _ _ last in
    let (digits, below_within) = whole_said text below.0 below.1 read in
    let left : below.1 ≡ rest = ap (λ (x : Ratio × List ℕ). x.1) same in
    record {
      number = quotient n below.0;
      exists = (within, below_within);
      spelled = joined (decimal n) (decimal below.0) text rest 47 (digits ∙ ap (λ xs. decimal below.0 ++ xs) left);
      value = ap (λ (x : Ratio × List ℕ). x.0) same;
    }

-- a whole number alone
integer_said : (n : ℕ) (text : List ℕ) (ratio : Ratio) (rest : List ℕ) → n ≤ MOST
    → ◌≡◌ {A = Result (Ratio × List ℕ) AmountFault} (Ok (ratio_of (integer n), text)) (Ok (ratio, rest))
    → IsReadNumber (decimal n ++ text) ratio rest
integer_said n text ratio rest within h =
    let same = ok_same _ _ h in
    record {
      number = integer n;
      exists = within;
      spelled = ap (λ (x : Ratio × List ℕ). decimal n ++ x.1) same;
      value = ap (λ (x : Ratio × List ℕ). x.0) same;
    }

-- what follows a whole number
continued_said : (n : ℕ) (text : List ℕ) (ratio : Ratio) (rest : List ℕ) → n ≤ MOST
    → continued_at n text ≡ Ok (ratio, rest) → IsReadNumber (decimal n ++ text) ratio rest
continued_said n [] ratio rest within h = integer_said n [] ratio rest within h
continued_said n (c ∷ cs) ratio rest within h = elim (cases_Bool (c == 46)) [
  | inl point ↦ (
      let is : c ≡ 46 = (Decides-eqb c 46).0 point in
      rw is (decimals_said n cs ratio rest within (rw point at h))
      )
  | inr no_point ↦ elim (cases_Bool (c == 47)) [
    | inl slash ↦ (
        let is : c ≡ 47 = (Decides-eqb c 47).0 slash in
        rw is (over_said n cs ratio rest within (rw (no_point, slash) at h))
        )
    | inr no_slash ↦ integer_said n (c ∷ cs) ratio rest within (rw (no_point, no_slash) at h)
  ]
]

-- a number
ratio_said : (text : List ℕ) (ratio : Ratio) (rest : List ℕ) → ratio_at text ≡ Ok (ratio, rest)
    → IsReadNumber text ratio rest
unfolding ratio_at
ratio_said text ratio rest h =
    let (n, read, last) = bind_ok _ _ _ h in
    let (digits, within) = whole_said text n.0 n.1 read in
    subst (λ xs. IsReadNumber xs ratio rest) (sym digits) (continued_said n.0 n.1 ratio rest within last)

-- a text that is empty or begins with a letter
abbrev begins : List ℕ → Bool
begins [] = true
begins (c ∷ cs) = nat_le 65 c

-- the name of a unit begins with a letter
found_begins : (name : List ℕ) (rows : List Row) (row : Row) → list_all (λ r. begins r.name) rows ≡ true
    → find (λ r. bytes_eq r.name name) rows ≡ Some row → begins name ≡ true
found_begins name [] row all found = absurd (cc)
found_begins name (r ∷ rs) row all found =
    let (first, others) = and_parts (begins r.name) (list_all (λ x. begins x.name) rs) all in
    elim (cases_Bool (bytes_eq r.name name)) [
      | inl here ↦ ap begins (sym ((bytes_eq-Decides r.name name).0 here)) ∙ first
      | inr later ↦ found_begins name rs row others (rw later at found)
    ]

-- so does a name that was written
name_begins : (unwritten name : List ℕ) (row : Row) → unit_named (or_unwritten unwritten name) ≡ Some row
    → begins name ≡ true
unfolding unit_named units
name_begins unwritten [] row found = refl
name_begins unwritten (c ∷ cs) row found = found_begins (c ∷ cs) units row refl found

-- spaces and a name have no digit before them
tail_stops : (spaces : ℕ) (name : List ℕ) → begins name ≡ true → digit_count (replicate spaces space ++ name) ≡ 0
tail_stops zero [] letter = refl
tail_stops zero (c ∷ cs) letter = let other : is_ascii_digit c ≡ false = grind (arith, nat_tests) in rw other refl
tail_stops (suc n) name letter = refl

-- a whole number before them stands alone
tail_continues : (n spaces : ℕ) (name : List ℕ) → begins name ≡ true
    → continued_at n (replicate spaces space ++ name) ≡ Ok (ratio_of (integer n), replicate spaces space ++ name)
tail_continues n zero [] letter = refl
tail_continues n zero (c ∷ cs) letter =
    let no_point : (c == 46) ≡ false = grind (arith, nat_tests) in
    let no_slash : (c == 47) ≡ false = grind (arith, nat_tests) in
    rw (no_point, no_slash) refl
tail_continues n (suc spaces) name letter = refl

-- the spaces before a name
tail_spaces : (spaces : ℕ) (name : List ℕ) → begins name ≡ true
    → prefix_len (λ octet. octet == space) (replicate spaces space ++ name) ≡ spaces
tail_spaces zero [] letter = refl
tail_spaces zero (c ∷ cs) letter = let other : (c == 32) ≡ false = grind (arith, nat_tests) in rw other refl
tail_spaces (suc n) name letter = rw (tail_spaces n name letter) (omega arith)

-- the name after the spaces
tail_name : (unwritten : List ℕ) (spaces : ℕ) (name : List ℕ) → begins name ≡ true
    → name_in unwritten (replicate spaces space ++ name) ≡ or_unwritten unwritten name
tail_name unwritten spaces name letter =
    let left = drop_at (replicate spaces space) name spaces (length-replicate spaces space) in
    rw (tail_spaces spaces name letter, left) refl

-- how many spaces a text begins with
abbrev space_count : List ℕ → ℕ
space_count text = prefix_len (λ octet. octet == space) text

-- the spaces that a text begins with
spaces_said : (text : List ℕ) → text ≡ replicate (space_count text) space ++ drop (space_count text) text
spaces_said [] = refl
spaces_said (c ∷ cs) = elim (cases_Bool (c == space)) [
  | inl is_space ↦ (
      let is : c ≡ space = (Decides-eqb c space).0 is_space in
      let more : 1 + space_count cs ≡ suc (space_count cs) = omega arith in
      rw (is_space, more, is) (ap (λ xs. space ∷ xs) (spaces_said cs))
      )
  | inr other ↦ rw other refl
]

-- a number is read
number_read : (number : Number) (rest : List ℕ) → IsNumber number → digit_count rest ≡ 0
    → ((n : ℕ) → continued_at n rest ≡ Ok (ratio_of (integer n), rest))
    → ratio_at (number_text number ++ rest) ≡ Ok (ratio_of number, rest)
unfolding ratio_at over_at
number_read (integer n) rest exists stop alone = rw (whole_read n rest exists stop, alone n) refl
number_read (decimals n count parts) rest (within, some, few, small) stop alone =
    rw (
      append_assoc (decimal n) (46 ∷ digits_of count parts) rest,
      whole_read n (46 ∷ digits_of count parts ++ rest) within refl,
      decimals_read n count parts rest some few small stop,
    )
    refl
number_read (quotient a b) rest (above, below) stop alone =
    rw (
      append_assoc (decimal a) (47 ∷ decimal b) rest,
      whole_read a (47 ∷ decimal b ++ rest) above refl,
      whole_read b rest below stop,
    )
    refl

-- a number and a unit are read
pub measured_read : (unwritten text : List ℕ) (number : Fraction) (row : Row) → Measures unwritten text number row
    → measured_in unwritten text ≡ Ok (number, row)
unfolding measured_in
measured_read unwritten text number row is =
    let rest = replicate is.spaces space ++ is.name in
    let letter = name_begins unwritten is.name row is.unit in
    let stops = tail_stops is.spaces is.name letter in
    rw (
      is.spelled,
      number_read is.written rest is.exists stops (λ n. tail_continues n is.spaces is.name letter),
      is.in_lowest,
      tail_name unwritten is.spaces is.name letter,
      is.unit,
    )
    refl

-- a number with the unit that was found for it
abbrev with_unit : Fraction → Option Row → Result (Fraction × Row) AmountFault
with_unit number found = do
  row ← ok_or found NoSuchUnit
  Ok (number, row)

-- a unit that was found
unit_said : (found : Option Row) (f number : Fraction) (row : Row) → with_unit f found ≡ Ok (number, row)
    → (found ≡ Some row) × (f ≡ number)
unit_said None f number row h = absurd (cc)
unit_said (Some r) f number row h =
    let same = ok_same _ _ h in
    (ap (λ (x : Fraction × Row). Some x.1) same, ap (λ (x : Fraction × Row). x.0) same)

-- a number and a unit that were read
pub measured_said : (unwritten text : List ℕ) (number : Fraction) (row : Row)
    → measured_in unwritten text ≡ Ok (number, row) → Measures unwritten text number row
unfolding measured_in
measured_said unwritten text number row h =
    let (ratio, read, h1) = bind_ok _ _ _ h in
    let (f, in_lowest, h2) = bind_ok _ _ _ h1 in
    let (found, same) = unit_said (unit_named (name_in unwritten ratio.1)) f number row h2 in
    let said = ratio_said text ratio.0 ratio.1 read in
    record {
      written = said.number;
      spaces = space_count ratio.1;
      name = drop (space_count ratio.1) ratio.1;
      exists = said.exists;
      spelled = said.spelled ∙ ap (λ xs. number_text said.number ++ xs) (spaces_said ratio.1);
      unit = found;
      in_lowest = rw said.value (in_lowest ∙ ap (λ x. Ok x) same);
    }

-- a volume that was read is written
pub volume_said : (text : List ℕ) (volume : Volume) → volume_in text ≡ Ok volume → WritesVolume text volume
unfolding volume_in
volume_said text volume h =
    let (measured, read, last) = bind_ok _ _ _ h in
    (measured.0, measured.1, measured_said (codes "octets") text measured.0 measured.1 read, last)

-- a volume that is written is read
pub volume_read : (text : List ℕ) (volume : Volume) → WritesVolume text volume → volume_in text ≡ Ok volume
unfolding volume_in
volume_read text volume (number, row, is, gives) = rw (measured_read (codes "octets") text number row is) gives

-- a rate that was read is written
pub rate_said : (text : List ℕ) (rate : Rate) → rate_in text ≡ Ok rate → WritesRate text rate
unfolding rate_in
rate_said text rate h =
    let (measured, read, last) = bind_ok _ _ _ h in
    (measured.0, measured.1, measured_said (codes "bit/s") text measured.0 measured.1 read, last)

-- a rate that is written is read
pub rate_read : (text : List ℕ) (rate : Rate) → WritesRate text rate → rate_in text ≡ Ok rate
unfolding rate_in
rate_read text rate (number, row, is, gives) = rw (measured_read (codes "bit/s") text number row is) gives
