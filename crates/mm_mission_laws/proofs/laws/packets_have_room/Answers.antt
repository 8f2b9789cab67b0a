use Rattle.mm_mission_laws.proofs.Level.{packets_have_room}
use Rattle.mm_mission_laws.proofs.laws.packets_have_room.Goals as goal

pub returns : goal.returns
returns c = λ m edges q x packets s t time count h are of within by below first last.
    packets_have_room m edges q x s t h are of within below first last packets time count by
