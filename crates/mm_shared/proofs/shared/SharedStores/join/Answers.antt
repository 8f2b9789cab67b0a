use Rattle.mm_shared.proofs.Words.{rules, arith, common_steps}
use Rattle.mm_shared.proofs.Parting.{joins_kept}
use Rattle.mm_shared.proofs.shared.SharedStores.join.Goals as goal

pub join_seat-requires : goal.join_seat-requires
join_seat-requires c = (
  search rules,
  search rules,
  c.port.invariant.0.empty,
  search rules,
  joins_kept _ _ _ _ _ _ c.ports.invariant.0.none c.port.invariant.0.none (grind (arith, common_steps))
      (omega (arith, c.port.invariant.2)),
)
