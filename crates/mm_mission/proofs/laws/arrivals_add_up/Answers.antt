use Rattle.mm_mission.proofs.Summed.{arrivals_add_up}
use Rattle.mm_mission.proofs.laws.arrivals_add_up.Goals as goal

pub returns : goal.returns
returns c = λ m edges q s n h times. arrivals_add_up m s h edges q n times
