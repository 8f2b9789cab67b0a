-- The numbers that the words of the texts write.
use Rattle.std.specs.Prelude.{ℕ, nat_le, if◌then◌else◌, List, Result, Ok, Err}
use Rattle.mm_base.specs.Numbers.{numeral_of}
use Rattle.mm_base.specs.declared.numbers.Numeral.{Numeral}
use Rattle.mm_base.specs.declared.numbers.Numeral.TheVariants.{NotNumber, TooLarge, Number}
use Rattle.mm_run.specs.declared.script_fault.ScriptFault.{ScriptFault}

-- a number from a bound on
abbrev pub number_from : ScriptFault → ℕ → Numeral → Result ℕ ScriptFault
number_from bad low (Number n) = if nat_le low n then Ok n else Err bad
number_from bad low NotNumber = Err bad
number_from bad low TooLarge = Err bad

-- the number that a word writes, where it is in this range
abbrev pub number_in : ScriptFault → ℕ → ℕ → List ℕ → Result ℕ ScriptFault
number_in bad low high word = number_from bad low (numeral_of high word)
