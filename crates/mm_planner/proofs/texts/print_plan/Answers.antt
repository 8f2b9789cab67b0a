use Rattle.mm_planner.proofs.PlanTextLemmas.{printed_plain}
use Rattle.mm_planner.proofs.texts.print_plan.Goals as goal

pub returns : goal.returns
returns c = printed_plain c.args.problem.now (record { sheet = c.in_ok-sheet.sheet; text = c.in_ok-text.text })
    c.in_ok-sheet.ensures c.in_ok-text.ensures
