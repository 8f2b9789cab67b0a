use Rattle.mm_shared.proofs.Words.{arith, common_steps}
use Rattle.mm_shared.proofs.Kept.{begins_kept}
use Rattle.mm_shared.proofs.shared.SharedStores.open.Goals as goal

pub new-requires : goal.new-requires
new-requires c = rw c.of.ensures (begins_kept c.args.seats _ c.args.states.items (grind (arith, common_steps)))
