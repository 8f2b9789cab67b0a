-- The values that are written in cells.
use Rattle.std.specs.Prelude.{ℕ, ◌==◌, List, Result, Ok, Err, if◌then◌else◌, codes, bytes_eq}
use Rattle.std.specs.Str.{is_utf8}
use Rattle.mm_base.specs.Id.{is_id_text, field_of}
use Rattle.mm_base.specs.Kind.{word_of}
use Rattle.mm_base.specs.Numbers.{numeral_of}
use Rattle.mm_base.specs.Reading.{◌>>=◌}
use Rattle.mm_base.specs.declared.kind.Kind.{Kind}
use Rattle.mm_base.specs.declared.kind.Kind.TheVariants.{Circular, Bounded}
use Rattle.mm_base.specs.declared.limits.TheConstants.{MAX_CHANNEL}
use Rattle.mm_base.specs.declared.numbers.Numeral.{Numeral}
use Rattle.mm_base.specs.declared.numbers.Numeral.TheVariants.{NotNumber, TooLarge, Number}
use Rattle.mm_utc.specs.Amounts.{volume_in, rate_in}
use Rattle.mm_utc.specs.Moments.{moment_in}
use Rattle.mm_utc.specs.declared.amount.Rate.{Rate}
use Rattle.mm_utc.specs.declared.amount.Volume.{Volume}
use Rattle.mm_mission_text.specs.declared.cell.TheConstants.{MOST_OCTETS, MOST_BLOCK, MOST_UNIT}
use Rattle.mm_mission_text.specs.declared.fault.Why.{Why}
use Rattle.mm_mission_text.specs.declared.fault.Why.TheVariants.{NotText, NotId, NotKind, NotChannel, NotOctets, Moment}
use Rattle.mm_mission_text.specs.declared.fault.Why.TheVariants.{Amount, NotBlock, NotOverlap, NotNumber}
use Rattle.mm_mission_text.specs.declared.whole.Overlap.{Overlap}
use Rattle.mm_mission_text.specs.declared.whole.Overlap.TheVariants.{Both, Better}

-- the same value, or the fault that is told of this one
abbrev pub told_as : {X F G : Type 0} → (F → G) → Result X F → Result X G
told_as tell (Ok x) = Ok x
told_as tell (Err e) = Err (tell e)

-- a name
abbrev pub text_of : List ℕ → Result (List ℕ) Why
text_of text = if is_utf8 text then Ok text else Err NotText

-- the identifier of a store, as its field
abbrev pub id_of : List ℕ → Result (List ℕ) Why
id_of text = if is_id_text text then Ok (field_of text) else Err NotId

-- a moment, in microseconds
abbrev pub moment_of : List ℕ → Result ℕ Why
moment_of text = told_as Moment (moment_in text)

-- a rate
abbrev pub rate_of : List ℕ → Result Rate Why
rate_of text = told_as Amount (rate_in text)

-- a volume
abbrev pub volume_of : List ℕ → Result Volume Why
volume_of text = told_as Amount (volume_in text)

-- the kind of a store
abbrev pub kind_of : List ℕ → Result Kind Why
kind_of word =
    if bytes_eq word (word_of Bounded) then Ok Bounded
    else if bytes_eq word (word_of Circular) then Ok Circular
    else Err NotKind

-- the number, if the text was read as one
abbrev pub number_or : Why → Numeral → Result ℕ Why
number_or why NotNumber = Err why
number_or why TooLarge = Err why
number_or why (Number n) = Ok n

-- a channel
abbrev pub channel_of : List ℕ → Result ℕ Why
channel_of text = number_or NotChannel (numeral_of MAX_CHANNEL text)

-- a number above 0
abbrev pub above_0 : Why → ℕ → Result ℕ Why
above_0 why n = if n == 0 then Err why else Ok n

-- the octets of a packet
abbrev pub octets_of : List ℕ → Result ℕ Why
octets_of text = number_or NotOctets (numeral_of MOST_OCTETS text) >>= above_0 NotOctets

-- the octets of a block
abbrev pub block_of : List ℕ → Result ℕ Why
block_of text = number_or NotBlock (numeral_of MOST_BLOCK text) >>= above_0 NotBlock

-- how many packets are counted as one
abbrev pub unit_of : List ℕ → Result ℕ Why
unit_of text = number_or NotNumber (numeral_of MOST_UNIT text)

-- what holds where passes overlap
abbrev pub overlap_of : List ℕ → Result Overlap Why
overlap_of word =
    if bytes_eq word (codes "both") then Ok Both else if bytes_eq word (codes "better") then Ok Better
    else Err NotOverlap
