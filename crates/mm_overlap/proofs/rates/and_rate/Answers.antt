use Rattle.std.proofs.Common.{arith}
use Rattle.mm_overlap.proofs.BetterLemmas.{next_rate}
use Rattle.mm_overlap.proofs.rates.and_rate.Goals as goal

pub returns-clause-next : goal.returns-clause-next
returns-clause-next c = next_rate c.args.time c.args.rate.now c.common.result c.common.ensures
