use Rattle.mm_mission_sheet.proofs.FlownLemmas.{plans_fit}
use Rattle.mm_mission_sheet.proofs.laws.plans_fit.Goals as goal

pub returns : goal.returns
returns c = plans_fit
