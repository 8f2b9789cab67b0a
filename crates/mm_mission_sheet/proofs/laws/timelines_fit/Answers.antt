use Rattle.mm_mission_sheet.proofs.FlownLemmas.{timeline_dumps}
use Rattle.mm_mission_sheet.proofs.laws.timelines_fit.Goals as goal

pub returns : goal.returns
returns c = timeline_dumps
