-- The plan texts that answer a setup and a forecast.
use Rattle.std.specs.Prelude.{◌≡◌, ℕ, Some, None, List, Err, pos}
use Rattle.std.specs.List.Sorted.{IsSortedByKey, IsNonDecreasing}
use Rattle.mm_problem.specs.declared.fault.Fault.TheVariants as problem
use Rattle.mm_problem.specs.Dumping.{Dumping}
use Rattle.mm_plan.specs.Table.{amount}
use Rattle.mm_plan.specs.Volumes.{loss}
use Rattle.mm_plan.specs.Sheet.{SheetRows, CertificateRows, IsSheet, IsShapedFor}
use Rattle.mm_plan.specs.Printing.{stretch_key, key_cmp}
use Rattle.mm_cut.specs.declared.verdict.Verdict.{Verdict}
use Rattle.mm_cut.specs.declared.verdict.Verdict.TheVariants.{Least, LeastInOrder}
use Rattle.mm_cut.specs.declared.fault.Fault.{Fault}
use Rattle.mm_cut.specs.declared.fault.Fault.TheVariants.{NoMemory, Problem, Plan}
use Rattle.mm_problem.specs.Texts.{problem_in, SaysProblem}
use Rattle.mm_cut.specs.Checking.{SaysSheet, Checks}
use Rattle.mm_planner.specs.Planned.{ShowsLeast, SheetShows}
use Rattle.mm_planner.specs.InOrder.{ShowsInOrder}
use Rattle.mm_planner.specs.declared.goal.Goal.{Goal}
use Rattle.mm_planner.specs.declared.goal.Goal.TheVariants as goal
use Rattle.mm_planner.specs.declared.texts.PrintedPlan.{PrintedPlan}

-- the stretches stand in store order, then by first and by last step, and the counted steps rise
pub record IsInOrder (s : SheetRows) : Type 0 where
  pub cut : IsSortedByKey (stretch_key s.stores) key_cmp s.cut
  pub counts : IsNonDecreasing s.by_channels

-- the text is that of this sheet of the problem, in printing order, and the sheet shows that its plan loses least: its
-- loss and its bound are right, and are the same number
pub record PlansFor (q : Dumping) (text : List ℕ) (sheet : SheetRows) : Type 0 where
  pub says_sheet : SaysSheet q text sheet
  pub shows_least : ShowsLeast q sheet.plan sheet.cut sheet.by_channels sheet.loss
  pub tight : sheet.bound ≡ pos sheet.loss
  pub in_order : IsInOrder sheet

-- the sheet has no certificates of the first stores
abbrev pub IsPlain : Dumping → SheetRows → Type 0
IsPlain q sheet = sheet.firsts ≡ None

-- the sheet's certificates of the first stores show that its plan loses least in the order of the stores
pub record SheetShowsInOrder (q : Dumping) (sheet : SheetRows) : Type 0 where
  pub certificates : List CertificateRows
  pub has : sheet.firsts ≡ Some certificates
  pub in_order : ShowsInOrder q sheet.plan certificates

-- what else a sheet shows, by the goal of its plan
abbrev pub Shows : Goal → Dumping → SheetRows → Type 0
Shows goal.Least = IsPlain
Shows goal.InOrder = SheetShowsInOrder

-- a sheet for the problem that shows that its plan loses least, and a further fact
pub record IsSheetFor (Besides : Dumping → SheetRows → Type 0) (q : Dumping) (s : SheetRows) : Type 0 where
  pub is_sheet : IsSheet s
  pub shape : IsShapedFor q s
  pub shows_least : SheetShows q s
  pub tight : s.bound ≡ pos s.loss
  pub besides : Besides q s

-- a plan and its text, which is that of a sheet that shows that the plan loses least, and a further fact
pub record IsPrintedAs (Besides : Dumping → SheetRows → Type 0) (q : Dumping) (printed : PrintedPlan) : Type 0 where
  pub sheet : SheetRows
  pub plans : PlansFor q printed.text.items sheet
  pub besides : Besides q sheet
  pub plan_is : printed.sheet.plan ≡ sheet.plan

-- a plan and its text, which has the plan and no certificates of the first stores
abbrev pub IsPrintedFor : Dumping → PrintedPlan → Type 0
IsPrintedFor q printed = IsPrintedAs IsPlain q printed

-- a plan and its text, which has the plan, and shows that it loses least in the order of the stores
abbrev pub IsPrintedInOrder : Dumping → PrintedPlan → Type 0
IsPrintedInOrder q printed = IsPrintedAs SheetShowsInOrder q printed

-- the text is that of a sheet for the problem of the setup and the forecast, and the sheet shows that its plan loses
-- least, and a further fact
pub record PlansAs (Besides : Dumping → SheetRows → Type 0) (setup forecast text : List ℕ) : Type 0 where
  pub problem : Dumping
  pub sheet : SheetRows
  pub says_problem : SaysProblem setup forecast problem
  pub plans : PlansFor problem text sheet
  pub besides : Besides problem sheet

-- the sheet has no certificates of the first stores
abbrev pub PlansLeast : List ℕ → List ℕ → List ℕ → Type 0
PlansLeast setup forecast text = PlansAs IsPlain setup forecast text

-- the sheet shows that its plan loses least in the order of the stores
abbrev pub PlansLeastInOrder : List ℕ → List ℕ → List ℕ → Type 0
PlansLeastInOrder setup forecast text = PlansAs SheetShowsInOrder setup forecast text

-- the first fault of the setup and the forecast; being out of memory is not one
abbrev pub IsPlanningFault : List ℕ → List ℕ → Fault → Type 0
IsPlanningFault setup forecast NoMemory = ⊥
IsPlanningFault setup forecast (Problem problem.NoMemory) = ⊥
IsPlanningFault setup forecast (Problem e) = problem_in setup forecast ≡ Err e
IsPlanningFault setup forecast (Plan e) = ⊥

-- the only verdict on a text with such a plan is this one, with the loss of the plan
abbrev CheckAs : (Dumping → SheetRows → Type 0) → (ℕ → Verdict) → Type 0
CheckAs Besides says =
    (setup forecast text : List ℕ) (planned : PlansAs Besides setup forecast text) (v : Verdict)
    → Checks setup forecast text v
    → v ≡ says (loss planned.problem (amount planned.sheet.plan))

-- the verdict on a text of a least plan is `Least`, with the loss of the plan
abbrev pub PlansCheckLeast : Type 0
PlansCheckLeast = CheckAs IsPlain Least

-- the verdict on a text of a plan that is least in the order of the stores is `LeastInOrder`
abbrev pub PlansCheckLeastInOrder : Type 0
PlansCheckLeastInOrder = CheckAs SheetShowsInOrder LeastInOrder
