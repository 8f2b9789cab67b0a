use Rattle.mm_mission.proofs.Summed.{rates_are_kept}
use Rattle.mm_mission.proofs.laws.rates_are_kept.Goals as goal

pub returns : goal.returns
returns c = rates_are_kept
