use Rattle.mm_mission.proofs.Losing.{losses_in_packets}
use Rattle.mm_mission.proofs.laws.losses_in_packets.Goals as goal

pub returns : goal.returns
returns c = λ m edges q x s n h times of below. losses_in_packets m edges q x s h times of below n
