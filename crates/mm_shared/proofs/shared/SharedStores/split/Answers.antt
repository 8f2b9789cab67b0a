use Rattle.mm_shared.proofs.Words.{rules, arith, common_steps}
use Rattle.mm_shared.proofs.Parting.{splits_kept}
use Rattle.mm_shared.proofs.shared.SharedStores.split.Goals as goal

pub split_seat-seat-requires : goal.split_seat-seat-requires
split_seat-seat-requires c = (
  search rules,
  search rules,
  splits_kept _ _ _ _ c.ports.invariant.0.none (grind (arith, common_steps)),
)
