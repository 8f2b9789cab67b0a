-- What answers a task, by what its texts say.
use Rattle.std.proofs.Common.{◌≡◌, ℕ, List, Bool, true, false, refl, subst}
use Rattle.mm_problem.specs.Dumping.{Dumping}
use Rattle.mm_problem.specs.Texts.{SaysProblem}
use Rattle.mm_plan.specs.Sheet.{SheetRows}
use Rattle.mm_plan.specs.Table.{amount}
use Rattle.mm_plan.specs.Volumes.{Amounts, loss}
use Rattle.mm_cut.specs.Checking.{LosesAs, SaysSheet}
use Rattle.mm_cut.specs.Lines.{line_of}
use Rattle.mm_cut.specs.Verdicts.{IsSheetVerdict}
use Rattle.mm_cut.specs.declared.verdict.Verdict.{Verdict}
use Rattle.mm_cut.proofs.ShownFirsts.{least_with, in_order_with}
use Rattle.mm_planner.specs.PlanTexts.{IsPrintedAs, Shows}
use Rattle.mm_planner.specs.declared.texts.PrintedPlan.{PrintedPlan}
use Rattle.mm_command_line.specs.declared.task.FlightPlan.TheVariants.{Made}
use Rattle.mm_commands.specs.Answers.{Judges, PlansText, goal_of, status_of}

-- the text of a plan that is printed for the problem of a setup and a forecast plans for them
pub plans_text : (in_order : Bool) (setup forecast : List ℕ) (q : Dumping) (printed : PrintedPlan)
    → SaysProblem setup forecast q → IsPrintedAs (Shows (goal_of (Made in_order))) q printed
    → PlansText in_order setup forecast printed.text.items
plans_text true setup forecast q printed says is =
    record { problem = q; sheet = is.sheet; says_problem = says; plans = is.plans; besides = is.besides }
plans_text false setup forecast q printed says is =
    record { problem = q; sheet = is.sheet; says_problem = says; plans = is.plans; besides = is.besides }

-- the line of the verdict on a problem and a sheet judges the texts that say them
pub judges : (setup forecast plan line : List ℕ) (q : Dumping) (s : SheetRows) (v : Verdict)
    → SaysProblem setup forecast q → SaysSheet q plan s → IsSheetVerdict q s v → line ≡ line_of v
    → Judges (status_of v) line setup forecast plan
judges setup forecast plan line q s v says_problem says_sheet is line_is = record {
  verdict = v;
  checks =
      record { problem = q; sheet = s; says_problem = says_problem; says_sheet = says_sheet; verdict = is };
  least = λ n same. loses n (least_with q s s.firsts n (subst (IsSheetVerdict q s) same is));
  in_order = λ n same. loses n (in_order_with q s s.firsts n (subst (IsSheetVerdict q s) same is));
  line_is = line_is;
  status_is = refl;
}
  where
    loses : {P : Dumping → Amounts → Type 0} (n : ℕ) → P q (amount s.plan) × (n ≡ loss q (amount s.plan))
        → LosesAs P setup forecast plan n
    loses n said = record {
      problem = q;
      sheet = s;
      says_problem = says_problem;
      says_sheet = says_sheet;
      least = said.0;
      loss = said.1;
    }
