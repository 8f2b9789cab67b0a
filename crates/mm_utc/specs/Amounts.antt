-- Volumes and rates in texts: a number, spaces, and a unit.
use Rattle.std.specs.Prelude.{ℕ, ◌+◌, ◌*◌, ◌^◌, ◌==◌, nat_lt, List, [], ◌∷◌, take, drop, codes, Result, Ok, Err}
use Rattle.std.specs.Prelude.{if◌then◌else◌}
use Rattle.std.specs.Char.{is_ascii_digit}
use Rattle.std.specs.List.{prefix_len}
use Rattle.std.specs.Option.{ok_or}
use Rattle.mm_base.specs.Characters.{space}
use Rattle.mm_base.specs.Numbers.{numeral_of, digits_number}
use Rattle.mm_base.specs.Reading.{◌>>=◌}
use Rattle.mm_base.specs.declared.numbers.Numeral.{Numeral}
use Rattle.mm_base.specs.declared.numbers.Numeral.TheVariants as numerals
use Rattle.mm_utc.specs.declared.amount.Rate.{Rate}
use Rattle.mm_utc.specs.declared.amount.Volume.{Volume}
use Rattle.mm_utc.specs.declared.fault.AmountFault.{AmountFault}
use Rattle.mm_utc.specs.declared.fault.AmountFault.TheVariants as faults
use Rattle.mm_utc.specs.declared.fraction.Fraction.{Fraction}
use Rattle.mm_utc.specs.declared.fraction.Ratio.{Ratio}
use Rattle.mm_utc.specs.declared.fraction.TheConstants.{MOST}
use Rattle.mm_utc.specs.declared.unit.Kind.{Kind}
use Rattle.mm_utc.specs.declared.unit.Kind.TheVariants as kinds
use Rattle.mm_utc.specs.Fractions.{lowest, scaled}
use Rattle.mm_utc.specs.Units.{Row, unit_named}

-- how many digits a text begins with
abbrev pub digit_count : List ℕ → ℕ
digit_count text = prefix_len is_ascii_digit text

-- a number that was read, with the text after it
abbrev pub numbered : List ℕ → Numeral → Result (ℕ × List ℕ) AmountFault
numbered rest (numerals.Number n) = Ok (n, rest)
numbered rest numerals.TooLarge = Err faults.TooLarge
numbered rest numerals.NotNumber = Err faults.NotNumber

-- the whole number at the front of a text, and the text after it
unfoldable pub whole_at : List ℕ → Result (ℕ × List ℕ) AmountFault
whole_at text = numbered (drop (digit_count text) text) (numeral_of MOST (take (digit_count text) text))

-- a number with the decimals that follow, at most fifteen of them
unfoldable pub decimals_at : ℕ → List ℕ → Result (Ratio × List ℕ) AmountFault
decimals_at whole text =
    let count = digit_count text in
    if count == 0 then Err faults.NotNumber else (if nat_lt 15 count then Err faults.TooLarge else (do
      parts ← ok_or (digits_number 0 (take count text)) faults.NotNumber
      Ok (record { above = whole * 10 ^ count + parts; below = 10 ^ count }, drop count text)))

-- a number over the number that follows
unfoldable pub over_at : ℕ → List ℕ → Result (Ratio × List ℕ) AmountFault
over_at above text = do
  below ← whole_at text
  Ok (record { above = above; below = below.0 }, below.1)

-- a number with what may follow it: a full stop with decimals, or a slash with another number
abbrev pub continued_at : ℕ → List ℕ → Result (Ratio × List ℕ) AmountFault
continued_at whole [] = Ok (record { above = whole; below = 1 }, [])
continued_at whole (octet ∷ rest) =
    if octet == 46 then decimals_at whole rest
    else (if octet == 47 then over_at whole rest else Ok (record { above = whole; below = 1 }, octet ∷ rest))

-- the number at the front of a text, and the text after it
unfoldable pub ratio_at : List ℕ → Result (Ratio × List ℕ) AmountFault
ratio_at text = do
  whole ← whole_at text
  continued_at whole.0 whole.1

-- the text, or this one in place of an empty text
abbrev pub or_unwritten : List ℕ → List ℕ → List ℕ
or_unwritten unwritten [] = unwritten
or_unwritten unwritten (octet ∷ octets) = octet ∷ octets

-- the name after the spaces, or the name of the unit that may be left out
abbrev pub name_in : List ℕ → List ℕ → List ℕ
name_in unwritten text = or_unwritten unwritten (drop (prefix_len (λ octet. octet == space) text) text)

-- the number of a text in lowest terms, and its unit
unfoldable pub measured_in : List ℕ → List ℕ → Result (Fraction × Row) AmountFault
measured_in unwritten text = do
  ratio ← ratio_at text
  number ← lowest ratio.0.above ratio.0.below
  row ← ok_or (unit_named (name_in unwritten ratio.1)) faults.NoSuchUnit
  Ok (number, row)

-- so many of a unit, if volumes are written in it
abbrev pub volume_of : Fraction → Row → Kind → Result Volume AmountFault
volume_of number row kinds.Volume = do
  amount ← scaled number row.size
  Ok (record { amount = amount; measure = row.measure })
volume_of number row kinds.Rate = Err faults.RateUnit
volume_of number row kinds.NearRate = Err faults.RateUnit

-- so many of a unit, if rates are written in it
abbrev pub rate_of : Fraction → Row → Kind → Result Rate AmountFault
rate_of number row kinds.Rate = do
  amount ← scaled number row.size
  Ok (record { amount = amount; measure = row.measure })
rate_of number row kinds.NearRate = do
  bits ← scaled number row.size
  Err (faults.BitsMeant bits)
rate_of number row kinds.Volume = Err faults.VolumeUnit

-- the volume that a text writes; a number alone is one of octets
unfoldable pub volume_in : List ℕ → Result Volume AmountFault
volume_in text = do
  measured ← measured_in (codes "octets") text
  volume_of measured.0 measured.1 measured.1.kind

-- the rate that a text writes; a number alone is one of bits a second
unfoldable pub rate_in : List ℕ → Result Rate AmountFault
rate_in text = do
  measured ← measured_in (codes "bit/s") text
  rate_of measured.0 measured.1 measured.1.kind
