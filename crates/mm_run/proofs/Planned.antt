-- What holds of the run of a plan holds by the sheet that it is the plan of.
use Rattle.std.specs.Prelude.{Option, Some, None}
use Rattle.mm_planner.specs.PlanTexts.{IsPrintedAs, Shows}
use Rattle.mm_planner.specs.declared.goal.Goal.{Goal}
use Rattle.mm_planner.specs.declared.texts.PrintedPlan.{PrintedPlan}
use Rattle.mm_run.specs.Types.{Dumping, SheetRows}
use Rattle.mm_run.specs.declared.run_plan.RunPlan.TheVariants.{Made, Unplanned}
use Rattle.mm_run.specs.Prepared.{IsPlanBy}

module _ (P : Option SheetRows → Type 0) (goal : Goal) (q : Dumping) where
  -- a plan that was made is printed for the problem
  pub by_made : (printed : PrintedPlan) → (IsPrintedAs (Shows goal) q printed → P None) → (sheet : Option SheetRows)
      → IsPlanBy goal sheet q (Made printed) → P sheet
  by_made printed holds (Some sheet) never = absurd never
  by_made printed holds None is_printed = holds is_printed

  -- without memory to plan there is no sheet
  pub by_none : P None → (sheet : Option SheetRows) → IsPlanBy goal sheet q Unplanned → P sheet
  by_none holds (Some sheet) never = absurd never
  by_none holds None unplanned = holds
