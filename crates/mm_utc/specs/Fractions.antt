-- Fractions in lowest terms.
use Rattle.std.specs.Prelude.{◌≡◌, ℕ, zero, suc, ◌*◌, ◌≤◌, ◌/◌, ◌%◌, ◌==◌, nat_le, ◌&&◌, Result, Ok, Err, if◌then◌else◌}
use Rattle.std.specs.Int.{IsGcd}
use Rattle.mm_utc.specs.declared.fault.AmountFault.{AmountFault}
use Rattle.mm_utc.specs.declared.fault.AmountFault.TheVariants.{OverZero, TooLarge}
use Rattle.mm_utc.specs.declared.fraction.Fraction.{Fraction}
use Rattle.mm_utc.specs.declared.fraction.TheConstants.{MOST}

-- Euclid's steps, at most so many
abbrev pub euclid : ℕ → ℕ → ℕ → ℕ
euclid zero a b = a
euclid (suc steps) a b = if b == 0 then a else euclid steps b (a % b)

-- the greatest common divisor
unfoldable pub gcd : ℕ → ℕ → ℕ
gcd a b = euclid (suc b) a b

-- the fraction, if both of its numbers are within the bound
abbrev pub within_most : ℕ → ℕ → Result Fraction AmountFault
within_most above below =
    if nat_le above MOST && nat_le below MOST then Ok (record { above = above; below = below }) else Err TooLarge

-- the fraction of two numbers in lowest terms
unfoldable pub lowest : ℕ → ℕ → Result Fraction AmountFault
lowest above below =
    if below == 0 then Err OverZero else within_most (above / gcd above below) (below / gcd above below)

-- one fraction times another
abbrev pub scaled : Fraction → Fraction → Result Fraction AmountFault
scaled number by = lowest (number.above * by.above) (number.below * by.below)

-- the fraction of two numbers, in lowest terms
pub record IsLowestOf (above below : ℕ) (f : Fraction) : Type 0 where
  pub same : f.above * below ≡ above * f.below
  pub some : 1 ≤ f.below
  pub lowest : IsGcd f.above f.below 1
