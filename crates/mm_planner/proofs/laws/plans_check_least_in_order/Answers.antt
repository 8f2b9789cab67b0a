use Rattle.mm_planner.proofs.PlanTextLemmas.{plans_check_least_in_order}
use Rattle.mm_planner.proofs.laws.plans_check_least_in_order.Goals as goal

pub returns : goal.returns
returns c = plans_check_least_in_order c.sheet_verdicts_exclude.ensures c.one_text_one_sheet.ensures
