-- How a line of packets names its packet.
use Rattle.std.specs.Prelude.{ℕ, ◌-◌, ◌^◌, Bool, ◌||◌, false, List, codes, Option, Some, None, if◌then◌else◌}
use Rattle.std.specs.Str.{bytes_eq}
use Rattle.mm_base.specs.Lines.{cut_word}
use Rattle.mm_base.specs.Numbers.{numeral_of}
use Rattle.mm_base.specs.Options.{◌>>=◌}
use Rattle.mm_base.specs.declared.numbers.Numeral.{Numeral}
use Rattle.mm_base.specs.declared.numbers.Numeral.TheVariants.{NotNumber, TooLarge, Number}

-- whether the first word of a text is this one, with a space after it
abbrev pub is_first_word : List ℕ → Option (List ℕ × List ℕ) → Bool
is_first_word word None = false
is_first_word word (Some parts) = bytes_eq parts.0 word

-- whether this is what `ask` says after the place of an instruction, or after the number of a line that it refused
abbrev pub says_answer : Option (List ℕ × List ℕ) → Bool
says_answer None = false
says_answer (Some parts) = bytes_eq parts.1 (codes "done") || is_first_word (codes "refused") (cut_word parts.1)

-- whether a line is an answer of `ask`: after its first word stands `done`, or `refused` with more words
unfoldable pub is_answer : List ℕ → Bool
is_answer line = says_answer (cut_word line)

-- a number before digits
abbrev pub before_digits : List ℕ → Numeral → Option (ℕ × List ℕ)
before_digits digits (Number n) = Some (n, digits)
before_digits digits NotNumber = None
before_digits digits TooLarge = None

-- the number and the digits of a line `N report DIGITS`, as `ask` prints a report
unfoldable pub reported : List ℕ → Option (ℕ × List ℕ)
reported line = do
  front ← cut_word line
  back ← cut_word front.1
  if bytes_eq back.0 (codes "report") then before_digits back.1 (numeral_of (2 ^ 64 - 1) front.0) else None

-- the number and the digits of a line's packet: those of a report of `ask`, or else the number of the line and the whole line
abbrev pub labelled_or : ℕ → List ℕ → Option (ℕ × List ℕ) → ℕ × List ℕ
labelled_or line digits None = (line, digits)
labelled_or line digits (Some found) = found

abbrev pub labelled : ℕ → List ℕ → ℕ × List ℕ
labelled line octets = labelled_or line octets (reported octets)
