-- What the three texts of a check say together.
use Rattle.std.specs.Prelude.{◌≡◌, ℕ, List, Err}
use Rattle.mm_problem.specs.declared.fault.Fault.TheVariants as problem
use Rattle.mm_problem.specs.Dumping.{Dumping}
use Rattle.mm_problem.specs.Texts.{problem_in, SaysProblem}
use Rattle.mm_plan.specs.declared.fault.Fault.{Fault as PlanFault}
use Rattle.mm_plan.specs.declared.fault.Fault.TheVariants as plan
use Rattle.mm_plan.specs.Table.{amount}
use Rattle.mm_plan.specs.Volumes.{Amounts, loss}
use Rattle.mm_plan.specs.Least.{IsLeast, IsLeastInOrder}
use Rattle.mm_plan.specs.Sheet.{SheetRows, IsSheet, IsShapedFor, sheet_text, IsFirstBadLine}
use Rattle.mm_cut.specs.Verdicts.{IsSheetVerdict}
use Rattle.mm_cut.specs.declared.verdict.Verdict.{Verdict}
use Rattle.mm_cut.specs.declared.fault.Fault.{Fault}
use Rattle.mm_cut.specs.declared.fault.Fault.TheVariants.{NoMemory, Problem, Plan}

-- the plan text says this sheet, and it is one for the problem
pub record SaysSheet (q : Dumping) (octets : List ℕ) (s : SheetRows) : Type 0 where
  pub is_sheet : IsSheet s
  pub text : octets ≡ sheet_text s
  pub shape : IsShapedFor q s

-- what `verdict_of` says of the problem and the sheet that the texts say
pub record Checks (setup forecast text : List ℕ) (v : Verdict) : Type 0 where
  pub problem : Dumping
  pub sheet : SheetRows
  pub says_problem : SaysProblem setup forecast problem
  pub says_sheet : SaysSheet problem text sheet
  pub verdict : IsSheetVerdict problem sheet v

-- the plan that the texts say has this property, and loses n blocks
pub record LosesAs (P : Dumping → Amounts → Type 0) (setup forecast text : List ℕ) (n : ℕ) : Type 0 where
  pub problem : Dumping
  pub sheet : SheetRows
  pub says_problem : SaysProblem setup forecast problem
  pub says_sheet : SaysSheet problem text sheet
  pub least : P problem (amount sheet.plan)
  pub loss : n ≡ loss problem (amount sheet.plan)

-- the plan that the texts say loses n blocks, and no plan that fits loses fewer
abbrev pub LosesLeast : List ℕ → List ℕ → List ℕ → ℕ → Type 0
LosesLeast = LosesAs IsLeast

-- the same, and no plan that fits loses fewer of the first store, of the first two and so on to all of them
abbrev pub LosesLeastInOrder : List ℕ → List ℕ → List ℕ → ℕ → Type 0
LosesLeastInOrder = LosesAs IsLeastInOrder

-- the sheet that a plan text says is not for the problem
pub record IsForAnother (q : Dumping) (octets : List ℕ) : Type 0 where
  pub sheet : SheetRows
  pub is_sheet : IsSheet sheet
  pub text : octets ≡ sheet_text sheet
  pub shape : ¬ IsShapedFor q sheet

-- the plan text has this fault; a refused allocation is no fault of a text
abbrev pub IsPlanFault : Dumping → List ℕ → PlanFault → Type 0
IsPlanFault q text plan.NoMemory = ⊥
IsPlanFault q text (plan.PlanText k) = IsFirstBadLine text k
IsPlanFault q text plan.Shape = IsForAnother q text

-- the plan text has this fault, and the setup and the forecast have none
pub record IsLaterFault (setup forecast text : List ℕ) (e : PlanFault) : Type 0 where
  pub problem : Dumping
  pub says_problem : SaysProblem setup forecast problem
  pub fault : IsPlanFault problem text e

-- the first fault of the three texts, in the order setup, forecast, plan text, shape; a refused allocation is none
abbrev pub IsFaultOf : List ℕ → List ℕ → List ℕ → Fault → Type 0
IsFaultOf setup forecast text NoMemory = ⊥
IsFaultOf setup forecast text (Problem problem.NoMemory) = ⊥
IsFaultOf setup forecast text (Problem e) = problem_in setup forecast ≡ Err e
IsFaultOf setup forecast text (Plan e) = IsLaterFault setup forecast text e
