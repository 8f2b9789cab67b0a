use Rattle.mm_mission.proofs.Arrived.{packets_have_come}
use Rattle.mm_mission.proofs.laws.packets_have_come.Goals as goal

pub returns : goal.returns
returns c = λ m edges q x packets s t time count h are of within by below first last.
    packets_have_come m edges q x s t h are of within below first last packets time count by
