-- A run that is read, judged and planned, and has not begun.
use Rattle.std.specs.Prelude.{◌≡◌, ℕ, List, [], length, Option, Some, None}
use Rattle.mm_run.specs.Types.{Dumping, SpacePacket, SheetRows, Holdings}
use Rattle.mm_plan.specs.Table.{Table}
use Rattle.mm_planner.specs.PlanTexts.{IsPrintedAs, Shows}
use Rattle.mm_planner.specs.declared.goal.Goal.{Goal}
use Rattle.mm_run.specs.Texts.{SaysStart, SaysSourcesAndLinks}
use Rattle.mm_run.specs.Runs.{TellsUntaken, lost_in, opened_with, scripted}
use Rattle.mm_run.specs.Untaken.{CountsOf}
use Rattle.mm_run.specs.declared.run_plan.RunPlan.{RunPlan}
use Rattle.mm_run.specs.declared.run_plan.RunPlan.TheVariants.{Given, Made, Unplanned}
use Rattle.mm_run.specs.declared.prepared.PreparedRun.{PreparedRun}

-- the text of a plan that was made; no text of a plan that was given is printed
abbrev pub text_of_plan : RunPlan → List ℕ
text_of_plan (Given sheet) = []
text_of_plan (Made printed) = printed.text.items
text_of_plan Unplanned = []

-- the plan text that is printed before the run begins
abbrev pub plan_text_of : PreparedRun → List ℕ
plan_text_of run = text_of_plan run.plan

-- the plan is that of the sheet; or without a sheet, one was made for this goal and printed, or there was no memory to
-- plan
abbrev pub IsPlanBy : Goal → Option SheetRows → Dumping → RunPlan → Type 0
IsPlanBy goal (Some sheet) problem (Given given) = given ≡ sheet
IsPlanBy goal None problem (Made printed) = IsPrintedAs (Shows goal) problem printed
IsPlanBy goal None problem Unplanned = Unit {0}
IsPlanBy goal sheet problem plan = ⊥

-- the run is that of the texts: its problem, its plan, the memory with the packets of step 0, the sources and the links
pub record IsPrepared (goal : Goal) (plan : Option (List ℕ)) (setup forecast sources_text links_text : List ℕ)
    (run : PreparedRun) : Type 0 where
  pub memory : Holdings
  pub sheet : Option SheetRows
  pub start_says : SaysStart plan setup forecast run.problem memory sheet
  pub opening : List SpacePacket
  pub sides_say : SaysSourcesAndLinks sources_text links_text opening run.sources.items run.links.items
  pub opened : run.memory ≡ opened_with memory opening
  pub plan_is : IsPlanBy goal sheet run.problem run.plan
  pub counts : CountsOf (length run.problem.windows) memory sources_text run.printed.given.unstored
  pub untaken_told : (table : Table)
      → TellsUntaken (scripted run.problem table run.memory run.sources.items) opening run.printed.given.unstored
  pub lost_before : run.printed.given.lost_before ≡ lost_in run.memory
