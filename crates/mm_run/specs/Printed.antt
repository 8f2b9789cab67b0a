-- What a run prints.
use Rattle.std.specs.Prelude.{◌≡◌, ◌≤◌, ◌⊎◌, ℕ, List, [], ◌++◌, vec_capacity, Option, Some, None}
use Rattle.mm_report.specs.Report.{Reported}
use Rattle.mm_report.specs.Text.{report_text}
use Rattle.mm_report.specs.declared.cause.Cause.{Cause}
use Rattle.mm_run.specs.declared.printed.Outcome.{Outcome}
use Rattle.mm_run.specs.declared.printed.Outcome.TheVariants.{CarriedOut, Unreported, Stopped}
use Rattle.mm_run.specs.declared.printed.Printed.{Printed}
use Rattle.mm_run.specs.declared.printed.TheConstants.{LINE}
use Rattle.mm_run.specs.Ending.{step_of, end_line, lacking_line}

-- the text that is printed: the plan text, where the plan was made here, then the report, then the last line
abbrev pub text_of : Printed → List ℕ
text_of p = p.sheet.items ++ p.report.items ++ p.end.items

-- nothing is printed yet, and there is room for a line in the report and at the end
pub record IsReserved (p : Printed) : Type 0 where
  pub report : p.report.items ≡ []
  pub report_room : LINE ≤ vec_capacity p.report
  pub end : p.end.items ≡ []
  pub end_room : LINE ≤ vec_capacity p.end
  pub left : p.left ≡ None

-- the report is printed, or, if there is no memory for its text, the line that replaces it
abbrev pub TellsReport : Reported → List ℕ → Outcome → Type 0
TellsReport report text outcome =
    ((text ≡ report_text report) × (outcome ≡ CarriedOut)) ⊎ ((text ≡ lacking_line) × (outcome ≡ Unreported))

-- a run that was carried out has its report printed, and nothing after it; nothing is handed on
pub record TellsAll (sheet : List ℕ) (report : Reported) (p : Printed) : Type 0 where
  pub sheet_is : p.sheet.items ≡ sheet
  pub end_is : p.end.items ≡ []
  pub report_is : TellsReport report p.report.items p.outcome
  pub left_is : p.left ≡ None

-- a run that was halted has its report printed, and one that did not begin has none
abbrev pub TellsOf : Option ℕ → Reported → List ℕ → Type 0
TellsOf (Some step) report text = (text ≡ report_text report) ⊎ (text ≡ lacking_line)
TellsOf None report text = text ≡ []

-- a run that was not carried out whole has the last line printed that says why
pub record TellsEnd (sheet : List ℕ) (cause : Cause) (report : Reported) (p : Printed) : Type 0 where
  pub sheet_is : p.sheet.items ≡ sheet
  pub end_is : p.end.items ≡ end_line cause
  pub report_is : TellsOf (step_of cause) report p.report.items
  pub outcome_is : p.outcome ≡ Stopped cause
