-- Refusals of texts.
use Rattle.mm_base.specs.declared.refusal.Refusal.{Refusal}
use Rattle.mm_base.specs.declared.refusal.Refusal.TheVariants as refusal
use Rattle.mm_problem.specs.declared.fault.Fault.{Fault}
use Rattle.mm_problem.specs.declared.fault.Fault.TheVariants.{NoMemory, SetupText, SetupField, ForecastText, Header, Cell, StepNumber, Limit}

-- which refusal it is
abbrev pub refusal_of : Fault → Refusal
refusal_of = elim [
  | NoMemory ↦ refusal.NoMemory
  | SetupText ↦ refusal.SetupText
  | SetupField row name ↦ refusal.SetupField
  | ForecastText ↦ refusal.ForecastText
  | Header ↦ refusal.Header
  | Cell row column ↦ refusal.Cell
  | StepNumber row ↦ refusal.StepNumber
  | Limit name ↦ refusal.Limit
]
