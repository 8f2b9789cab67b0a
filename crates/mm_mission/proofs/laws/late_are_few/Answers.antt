use Rattle.mm_mission.proofs.Losing.{late_are_few}
use Rattle.mm_mission.proofs.laws.late_are_few.Goals as goal

pub returns : goal.returns
returns c = late_are_few
