use Rattle.std.proofs.Common.{subst}
use Rattle.mm_planner.specs.PlanTexts.{IsPrintedAs, Shows}
use Rattle.mm_commands.proofs.Answering.{plans_text}
use Rattle.mm_commands.proofs.answers.plan_text.Goals as goal

pub returns-clause-plans : goal.returns-clause-plans
returns-clause-plans c =
    let q = c.in_ok-problem.field-0.problem in
    let printed = c.in_ok-printed.printed in
    plans_text c.args.in_order _ _ q printed c.in_ok-problem.ensures.gives
    (subst (λ aim. IsPrintedAs (Shows aim) q printed) c.goal_of-goal.ensures.goal c.in_ok-printed.ensures)
