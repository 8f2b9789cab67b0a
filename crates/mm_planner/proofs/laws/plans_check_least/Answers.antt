use Rattle.mm_planner.proofs.PlanTextLemmas.{plans_check_least}
use Rattle.mm_planner.proofs.laws.plans_check_least.Goals as goal

pub returns : goal.returns
returns c = plans_check_least c.sheet_verdicts_exclude.ensures c.one_text_one_sheet.ensures
