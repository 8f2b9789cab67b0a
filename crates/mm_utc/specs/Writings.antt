-- Volumes and rates as they are written: a number, spaces, and a unit or none.
use Rattle.std.specs.Prelude.{◌≡◌, ℕ, ◌+◌, ◌*◌, ◌^◌, ◌<◌, ◌≤◌, List, ◌∷◌, ◌++◌, codes, Some, Result, Ok}
use Rattle.std.specs.Prelude.{IfOk}
use Rattle.std.specs.Fmt.{decimal}
use Rattle.std.proofs.Math.ListN.{replicate}
use Rattle.mm_base.specs.Characters.{space}
use Rattle.mm_utc.specs.Amounts.{or_unwritten, volume_of, rate_of, volume_in, rate_in}
use Rattle.mm_utc.specs.Digits.{Reads, digits_of}
use Rattle.mm_utc.specs.Fractions.{lowest}
use Rattle.mm_utc.specs.Units.{Row, unit_named}
use Rattle.mm_utc.specs.declared.amount.Rate.{Rate}
use Rattle.mm_utc.specs.declared.amount.Volume.{Volume}
use Rattle.mm_utc.specs.declared.fault.AmountFault.{AmountFault}
use Rattle.mm_utc.specs.declared.fraction.Fraction.{Fraction}
use Rattle.mm_utc.specs.declared.fraction.Ratio.{Ratio}
use Rattle.mm_utc.specs.declared.fraction.TheConstants.{MOST}

-- a number: a whole one, one with so many decimals, which are this number, or one over another
pub data Number : Type 0 where
  integer : ℕ → Number
  decimals : ℕ → ℕ → ℕ → Number
  quotient : ℕ → ℕ → Number

-- the whole numbers are within the bound, and there are at most fifteen decimals
abbrev pub IsNumber : Number → Type 0
IsNumber (integer n) = n ≤ MOST
IsNumber (decimals n count parts) = (n ≤ MOST) × (1 ≤ count) × (count ≤ 15) × (parts < 10 ^ count)
IsNumber (quotient a b) = (a ≤ MOST) × (b ≤ MOST)

-- the text of a number
abbrev pub number_text : Number → List ℕ
number_text (integer n) = decimal n
number_text (decimals n count parts) = decimal n ++ (46 ∷ digits_of count parts)
number_text (quotient a b) = decimal a ++ (47 ∷ decimal b)

-- a number as the ratio of two whole numbers
abbrev pub ratio_of : Number → Ratio
ratio_of (integer n) = record { above = n; below = 1 }
ratio_of (decimals n count parts) = record { above = n * 10 ^ count + parts; below = 10 ^ count }
ratio_of (quotient a b) = record { above = a; below = b }

-- the text writes so many of a unit; `unwritten` is the unit of a number alone
pub record Measures (unwritten text : List ℕ) (number : Fraction) (row : Row) : Type 0 where
  pub written : Number
  pub spaces : ℕ
  pub name : List ℕ
  pub exists : IsNumber written
  pub spelled : text ≡ number_text written ++ (replicate spaces space ++ name)
  pub unit : unit_named (or_unwritten unwritten name) ≡ Some row
  pub in_lowest : lowest (ratio_of written).above (ratio_of written).below ≡ Ok number

-- the text writes the volume
abbrev pub WritesVolume : List ℕ → Volume → Type 0
WritesVolume text volume = (number : Fraction) × (row : Row) × Measures (codes "octets") text number row
    × (volume_of number row row.kind ≡ Ok volume)

-- the text writes the rate
abbrev pub WritesRate : List ℕ → Rate → Type 0
WritesRate text rate = (number : Fraction) × (row : Row) × Measures (codes "bit/s") text number row
    × (rate_of number row row.kind ≡ Ok rate)

-- the result of reading a text as a volume
pub record IsParsedVolume (text : List ℕ) (result : Result Volume AmountFault) : Type 0 where
  -- the text writes the volume
  pub found : IfOk result (λ volume. WritesVolume text volume)
  -- a volume that the text writes is read
  pub only : (volume : Volume) → WritesVolume text volume → result ≡ Ok volume
  -- where there is none, it is the first fault from left to right, and last whether the volume is out of range
  pub exact : Reads (λ volume. volume) result (volume_in text)

-- the result of reading a text as a rate
pub record IsParsedRate (text : List ℕ) (result : Result Rate AmountFault) : Type 0 where
  pub found : IfOk result (λ rate. WritesRate text rate)
  pub only : (rate : Rate) → WritesRate text rate → result ≡ Ok rate
  pub exact : Reads (λ rate. rate) result (rate_in text)
