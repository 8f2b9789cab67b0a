-- The values in the cells of a forecast.
use Rattle.std.specs.Prelude.{ℕ, ◌==◌, List, Result, Ok, Err}
use Rattle.mm_problem.specs.declared.fault.Fault.{Fault}
use Rattle.mm_problem.specs.declared.fault.Fault.TheVariants.{Cell, StepNumber, Limit}
use Rattle.mm_problem.specs.declared.fault.Name.{Name}
use Rattle.mm_base.specs.declared.limits.TheConstants.{MAX_STEPS, MAX_BLOCKS}
use Rattle.mm_base.specs.declared.numbers.Numeral.{Numeral}
use Rattle.mm_base.specs.declared.numbers.Numeral.TheVariants.{NotNumber, TooLarge, Number}
use Rattle.mm_base.specs.Numbers.{numeral_of}
use Rattle.mm_base.specs.Reading.{test}

-- an amount of blocks, from its cell as a number
abbrev pub amount_from : ℕ → ℕ → Name → Numeral → Result ℕ Fault
amount_from row column name NotNumber = Err (Cell row column)
amount_from row column name TooLarge = Err (Limit name)
amount_from row column name (Number n) = Ok n

-- the amount of blocks in a cell
abbrev pub amount_of : ℕ → ℕ → Name → List ℕ → Result ℕ Fault
amount_of row column name text = amount_from row column name (numeral_of MAX_BLOCKS text)

-- the test of a step's number, from its cell as a number
abbrev pub step_from : ℕ → Numeral → Result (Unit {0}) Fault
step_from row NotNumber = Err (Cell row 1)
step_from row TooLarge = Err (StepNumber row)
step_from row (Number n) = test (n == row) (StepNumber row)

-- the test of the step's number in a cell
abbrev pub step_of : ℕ → List ℕ → Result (Unit {0}) Fault
step_of row text = step_from row (numeral_of MAX_STEPS text)
