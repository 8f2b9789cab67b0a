use Rattle.mm_shared.proofs.Words.{rules, arith}
use Rattle.mm_shared.proofs.Kept.{takes_by_all}
use Rattle.mm_shared.proofs.lock.take_by_all.Goals as goal

pub swap-requires : goal.swap-requires
swap-requires c = (
  search rules,
  search rules,
  takes_by_all _ _ _ _ _ _ 1 0 (λ k. 1) c.requires.there.opened (λ k. omega arith) c.requires.all,
)
