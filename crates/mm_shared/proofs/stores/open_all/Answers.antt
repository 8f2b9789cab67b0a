use Rattle.mm_shared.proofs.Words.{arith, common_steps}
use Rattle.mm_shared.proofs.Opening.{together}
use Rattle.mm_shared.proofs.stores.open_all.Goals as goal

pub returns-in-Ok-clause-opened : goal.returns-in-Ok-clause-opened
returns-in-Ok-clause-opened c = (
  record { kept = grind (arith, common_steps); none = grind (arith, common_steps); all = grind (arith, common_steps) },
  grind (arith, common_steps, together),
)
