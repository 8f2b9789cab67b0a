use Rattle.mm_mission.proofs.Grown.{steps_grow}
use Rattle.mm_mission.proofs.laws.steps_grow.Goals as goal

pub returns : goal.returns
returns c = steps_grow
