use Rattle.mm_planner.proofs.PlanTextLemmas.{printed_in_order}
use Rattle.mm_planner.proofs.texts.print_plan_in_order.Goals as goal

pub returns : goal.returns
returns c = printed_in_order c.args.problem.now (record { sheet = c.in_ok-sheet.sheet; text = c.in_ok-text.text })
    c.in_ok-sheet.ensures c.in_ok-text.ensures
