use Rattle.mm_shared.proofs.Words.{rules, ℕ, ◌<◌, arith, exchanged}
use Rattle.mm_shared.proofs.Kept.{tries_kept}
use Rattle.mm_shared.proofs.lock.take.Goals as goal

pub compare_exchange-requires : goal.compare_exchange-requires
compare_exchange-requires g c = (
  search rules,
  search rules,
  tries_kept _ _ _ _ _ _ _ 0 1 c.requires.there.opened (λ k. exchanged k 0 1 (λ (n : ℕ). 0 < n) (λ free. omega arith)
      (λ busy. omega arith)) c.requires.may.rest c.requires.may.seated,
)
