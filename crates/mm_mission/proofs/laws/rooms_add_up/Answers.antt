use Rattle.mm_mission.proofs.Summed.{rooms_add_up}
use Rattle.mm_mission.proofs.laws.rooms_add_up.Goals as goal

pub returns : goal.returns
returns c = rooms_add_up
