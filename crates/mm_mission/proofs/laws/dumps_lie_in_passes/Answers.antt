use Rattle.mm_mission.proofs.Passed.{dumps_lie_in_passes}
use Rattle.mm_mission.proofs.laws.dumps_lie_in_passes.Goals as goal

pub returns : goal.returns
returns c = dumps_lie_in_passes
