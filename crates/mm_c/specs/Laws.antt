-- That the texts of verdicts, charts and tables are fixed, and the table of worths.
use Rattle.std.specs.Prelude.{◌≡◌}
use Rattle.mm_c.specs.Words.{List, ℕ}
use Rattle.mm_cut.specs.Checking.{Checks}
use Rattle.mm_cut.specs.Lines.{line_of}
use Rattle.mm_cut.specs.declared.verdict.Verdict.{Verdict}
use Rattle.mm_chart.specs.Charts.{Charts}
use Rattle.mm_chart.specs.Table.{IsTableOf}
use Rattle.mm_sensitivity.specs.Table.{IsWorthTable}

-- the verdicts on three texts are one, and so are their lines
abbrev pub OneLine : Type 0
OneLine = (setup forecast plan : List ℕ) (v w : Verdict) → Checks setup forecast plan v → Checks setup forecast plan w
    → line_of v ≡ line_of w

-- so are the charts
abbrev pub OneChart : Type 0
OneChart = (setup forecast plan a b : List ℕ) → Charts setup forecast plan a → Charts setup forecast plan b → a ≡ b

-- and the tables
abbrev pub OneTable : Type 0
OneTable = (setup forecast plan a b : List ℕ) → IsTableOf setup forecast plan a → IsTableOf setup forecast plan b
    → a ≡ b

-- and the tables of what each number is worth
abbrev pub OneWorthTable : Type 0
OneWorthTable = (setup forecast a b : List ℕ) → IsWorthTable setup forecast a → IsWorthTable setup forecast b → a ≡ b
