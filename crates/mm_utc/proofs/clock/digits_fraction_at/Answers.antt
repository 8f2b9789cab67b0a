use Rattle.std.proofs.Common.{arith}
use Rattle.mm_utc.proofs.ClockLemmas.{fraction_small}
use Rattle.mm_utc.proofs.clock.digits_fraction_at.Goals as goal

pub returns-clause-small : goal.returns-clause-small
returns-clause-small c = rw c.pow.ensures (fraction_small _ _ (omega arith) c.in_ok-number.ensures.small)
