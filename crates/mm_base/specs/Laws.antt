-- What the definitions of this crate mean, in the words of their subjects.
use Rattle.std.specs.Prelude.{◌≡◌, ◌↔◌, ℕ, ◌^◌, ◌<◌, ◌≤◌, List}
use Rattle.std.specs.Fmt.{decimal}
use Rattle.mm_base.specs.declared.numbers.Numeral.TheVariants.{Number}
use Rattle.mm_base.specs.Numbers.{numeral_of}

-- a text is read as a number up to a bound if and only if the number is within the bound and is printed as that text
abbrev pub ReadsNumbers : Type 0
ReadsNumbers = (most : ℕ) (text : List ℕ) (n : ℕ) → most < 2 ^ 64
    → (numeral_of most text ≡ Number n) ↔ ((text ≡ decimal n) × (n ≤ most))
