use Rattle.mm_mission_exact.proofs.RateLemmas.{bits_are}
use Rattle.mm_mission_exact.proofs.laws.bits_are_exact.Goals as goal

pub returns : goal.returns
returns c = bits_are
