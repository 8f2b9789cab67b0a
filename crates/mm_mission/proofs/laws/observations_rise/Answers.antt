use Rattle.mm_mission.proofs.Summed.{observations_rise}
use Rattle.mm_mission.proofs.laws.observations_rise.Goals as goal

pub returns : goal.returns
returns c = λ m s t h. observations_rise m s h t
