-- The subtypes of reports.
use Rattle.std.specs.Prelude.{ℕ, ◌==◌, List, [], ◌∷◌, find, Option}
use Rattle.mm_st15.specs.declared.report_kind.ReportKind.{ReportKind}
use Rattle.mm_st15.specs.declared.report_kind.ReportKind.TheVariants.{Control, Summaries, Statuses, Configurations}

-- the subtype of a report
abbrev pub code_of : ReportKind → ℕ
code_of Control = 6
code_of Summaries = 13
code_of Statuses = 19
code_of Configurations = 23

-- the kinds of reports
abbrev pub kinds : List ReportKind
kinds = Control ∷ Summaries ∷ Statuses ∷ Configurations ∷ []

-- the report with a subtype
abbrev pub kind_at : ℕ → Option ReportKind
kind_at code = find (λ kind. code_of kind == code) kinds
