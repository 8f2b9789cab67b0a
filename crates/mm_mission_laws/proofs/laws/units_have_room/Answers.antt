use Rattle.mm_mission_laws.proofs.Level.{units_have_room}
use Rattle.mm_mission_laws.proofs.laws.units_have_room.Goals as goal

pub returns : goal.returns
returns c = λ m edges q x s t time units h are of within below first last.
    units_have_room m edges q x s t h are of within below first last time units
