-- What a chart is drawn of: a problem, a sheet for it, the verdict on the sheet, and what windows, limits and sizes are
-- worth where that is known.
use Rattle.std.specs.Prelude.{Bool, true, false, Option, is_some, List, [], if◌then◌else◌, ℕ}
use Rattle.mm_problem.specs.Dumping.{Dumping}
use Rattle.mm_plan.specs.declared.stretch.Stretch.{Stretch}
use Rattle.mm_plan.specs.Table.{amount, HasShape}
use Rattle.mm_plan.specs.Volumes.{Amounts, written, left, lost}
use Rattle.mm_plan.specs.Simulated.{VolumeTables, written_in, left_in, lost_in, CoversProblem, AgreeEach}
use Rattle.mm_plan.specs.Sheet.{SheetRows}
use Rattle.mm_cut.specs.Cuts.{IsCut}
use Rattle.mm_cut.specs.Verdicts.{IsSheetVerdict}
use Rattle.mm_cut.specs.declared.verdict.Verdict.{Verdict}
use Rattle.mm_cut.specs.declared.verdict.Verdict.TheVariants.{BoundIs, NotShown, FirstNotShown, Least, LeastInOrder}

-- how many blocks a larger window, limit or store saves at most; what is after the end of a list saves 0
pub record WorthLists : Type 0 where
  -- the window of each step
  pub windows : List ℕ
  -- the limit of each channel in the setup
  pub limits : List ℕ
  -- the limits of steps: step by step, in each all channels
  pub step_limits : List ℕ
  -- the size of each store
  pub sizes : List ℕ

pub record Drawn : Type 0 where
  pub problem : Dumping
  pub sheet : SheetRows
  pub verdict : Verdict
  pub worth : Option WorthLists

-- the picture with these parts
abbrev pub picture_of : Dumping → SheetRows → Verdict → Option WorthLists → Drawn
picture_of q s v worth = record { problem = q; sheet = s; verdict = v; worth = worth }

-- whether it is known what windows, limits and sizes are worth
abbrev pub has_worth : Drawn → Bool
has_worth p = is_some p.worth

-- the amounts that the sheet's plan asks for
abbrev pub amounts : Drawn → Amounts
amounts p = amount p.sheet.plan

-- whether the sheet's stretches and counts have been found to be a cut
abbrev pub has_cut : Verdict → Bool
has_cut (BoundIs m) = true
has_cut (NotShown n m) = true
has_cut (FirstNotShown k) = true
has_cut (Least n) = true
has_cut (LeastInOrder n) = true
has_cut _ = false

-- the cut that is drawn: the sheet's, or none where it is not one
abbrev pub cut : Drawn → List Stretch
cut p = if has_cut p.verdict then p.sheet.cut else []

-- the steps of that cut that are counted by channels
abbrev pub counts : Drawn → List ℕ
counts p = if has_cut p.verdict then p.sheet.by_channels else []

-- the sheet's plan is one for the problem, and the verdict is that on the sheet
pub record IsDrawn (p : Drawn) : Type 0 where
  pub shape : HasShape p.problem p.sheet.plan
  pub verdict : IsSheetVerdict p.problem p.sheet p.verdict
  pub is_cut : IsCut p.problem (cut p) (counts p)

-- the tables are what a plan does to the stores
pub record IsSimulation (q : Dumping) (x : Amounts) (v : VolumeTables) : Type 0 where
  pub shape : CoversProblem q v
  pub written : AgreeEach q (written_in v) (written q x)
  pub left : AgreeEach q (left_in v) (left q x)
  pub lost : AgreeEach q (lost_in v) (lost q x)
