-- Reading from left to right, and numbers of a fixed count of digits.
use Rattle.std.specs.Prelude.{◌≡◌, ℕ, zero, suc, ◌+◌, ◌/◌, ◌%◌, ◌==◌, nat_lt, List, [], ◌∷◌, ◌++◌, length, take, drop}
use Rattle.std.specs.Prelude.{Option, Some, None, Result, Ok, Err, if◌then◌else◌}
use Rattle.mm_base.specs.Numbers.{digits_number}
use Rattle.mm_base.specs.Reading.{◌>>=◌, test}
use Rattle.mm_utc.specs.declared.fault.MomentFault.{MomentFault}
use Rattle.mm_utc.specs.declared.fault.MomentFault.TheVariants.{Form}

-- the result of a function, its value seen by view, is the result of its definition
abbrev pub Reads : {F X Y : Type 0} → (X → Y) → Result X F → Result Y F → Type 0
Reads view (Ok x) given = given ≡ Ok (view x)
Reads view (Err e) given = given ≡ Err e

-- the value with the text after it, or `Form`
abbrev pub with_rest : List ℕ → Option ℕ → Result (ℕ × List ℕ) MomentFault
with_rest rest (Some n) = Ok (n, rest)
with_rest rest None = Err Form

-- the number that this many digits write, and the text after them
unfoldable pub number_at : ℕ → List ℕ → Result (ℕ × List ℕ) MomentFault
number_at count text =
    if nat_lt (length text) count then Err Form
    else with_rest (drop count text) (digits_number 0 (take count text))

-- the number of two digits, which is below the bound, and the text after it
unfoldable pub below_at : ℕ → MomentFault → List ℕ → Result (ℕ × List ℕ) MomentFault
below_at bound fault text = do
  number ← number_at 2 text
  below ← test (nat_lt number.0 bound) fault
  Ok number

-- the text after the octet that it begins with
abbrev pub after : ℕ → List ℕ → Result (List ℕ) MomentFault
after octet [] = Err Form
after octet (first ∷ rest) = if first == octet then Ok rest else Err Form

-- nothing follows
abbrev pub at_end : List ℕ → Result (Unit {0}) MomentFault
at_end [] = Ok tt
at_end (_ ∷ _) = Err Form

-- the last digits of a number, this many
unfoldable pub digits_of : ℕ → ℕ → List ℕ
digits_of zero number = []
digits_of (suc count) number = digits_of count (number / 10) ++ (48 + number % 10) ∷ []
