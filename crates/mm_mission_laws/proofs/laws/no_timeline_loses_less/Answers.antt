use Rattle.mm_mission_laws.proofs.Duality.{no_timeline_loses_less}
use Rattle.mm_mission_laws.proofs.laws.no_timeline_loses_less.Goals as goal

pub returns : goal.returns
returns c = no_timeline_loses_less
