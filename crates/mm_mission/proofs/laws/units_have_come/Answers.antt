use Rattle.mm_mission.proofs.Arrived.{units_have_come}
use Rattle.mm_mission.proofs.laws.units_have_come.Goals as goal

pub returns : goal.returns
returns c = λ m edges q x s t time units h are of within there below first last.
    units_have_come m edges q x s t h are of within below first last time units there
