-- Numbers in texts: in decimal, without sign and without leading zeros.
use Rattle.std.specs.Prelude.{ℕ, ◌+◌, ◌-◌, ◌*◌, ◌≤◌, Bool, false, ◌==◌, nat_le, not, ◌&&◌, if◌then◌else◌, List, [], ◌∷◌}
use Rattle.std.specs.Prelude.{Option, Some, None}
use Rattle.std.specs.Char.{is_ascii_digit}
use Rattle.std.specs.List.{list_all}
use Rattle.mm_base.specs.declared.numbers.Numeral.{Numeral}
use Rattle.mm_base.specs.declared.numbers.Numeral.TheVariants.{NotNumber, TooLarge, Number}

-- whether a text is a number: one digit, or several digits of which the first is not 0
abbrev pub is_number : List ℕ → Bool
is_number [] = false
is_number (c ∷ []) = is_ascii_digit c
is_number (c ∷ d ∷ cs) = not (c == 48) && list_all is_ascii_digit (c ∷ d ∷ cs)

-- the number that n becomes with these digits appended
abbrev pub value_after : ℕ → List ℕ → ℕ
value_after n [] = n
value_after n (c ∷ cs) = value_after (n * 10 + (c - 48)) cs

-- the same, or `None` if a character is not a digit
abbrev pub digits_number : ℕ → List ℕ → Option ℕ
digits_number n digits = if list_all is_ascii_digit digits then Some (value_after n digits) else None

-- the result of reading the number n up to the bound `most`
abbrev pub numeral_within : ℕ → ℕ → Numeral
numeral_within most n = if nat_le n most then Number n else TooLarge

-- the result of reading digits as a number up to a bound, leading zeros included
abbrev pub digits_numeral : ℕ → List ℕ → Numeral
digits_numeral most digits =
    if list_all is_ascii_digit digits then numeral_within most (value_after 0 digits) else NotNumber

-- the result of reading a text as a number up to a bound
abbrev pub numeral_of : ℕ → List ℕ → Numeral
numeral_of most text = if is_number text then numeral_within most (value_after 0 text) else NotNumber

-- if the result is a number, it is within the bound
abbrev pub IsWithin : ℕ → Numeral → Type 0
IsWithin most (Number n) = n ≤ most
IsWithin most TooLarge = Unit {0}
IsWithin most NotNumber = Unit {0}
