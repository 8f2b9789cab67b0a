use Rattle.mm_shared.proofs.Words.{rules, arith, common_steps}
use Rattle.mm_shared.proofs.Kept.{settles}
use Rattle.mm_shared.proofs.shared.SharedStores.settle.Goals as goal

pub load-requires : goal.load-requires
load-requires c = (
  search rules,
  omega (arith, c.self.invariant.words),
  settles _ _ _ _ _ 0 (omega arith) c.self.invariant.slots (grind (arith, common_steps)),
)
