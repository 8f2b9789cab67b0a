use Rattle.mm_mission_exact.proofs.RateLemmas.{rate_is}
use Rattle.mm_mission_exact.proofs.laws.blocks_are_exact.Goals as goal

pub returns : goal.returns
returns c = λ packet blocks r h. (rate_is _ _ r h).same
