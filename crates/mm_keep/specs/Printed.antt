-- The text of such a sheet.
use Rattle.std.specs.Prelude.{◌≡◌, ℕ}
use Rattle.mm_problem.specs.Dumping.{Dumping}
use Rattle.mm_plan.specs.Sheet.{SheetRows}
use Rattle.mm_plan.specs.Volumes.{Amounts}
use Rattle.mm_cut.specs.Checking.{SaysSheet}
use Rattle.mm_planner.specs.PlanTexts.{IsInOrder}
use Rattle.mm_planner.specs.declared.texts.PrintedPlan.{PrintedPlan}
use Rattle.mm_keep.specs.Keeps.{IsKeptSheet}

-- a sheet and its text, which is that of such a sheet in printing order, with the same loss
pub record IsPrintedKept (q : Dumping) (x : Amounts) (n : ℕ) (printed : PrintedPlan) : Type 0 where
  pub sheet : SheetRows
  pub says_sheet : SaysSheet q printed.text.items sheet
  pub in_order : IsInOrder sheet
  pub kept : IsKeptSheet q x n sheet
  pub loss_is : printed.sheet.loss ≡ sheet.loss
