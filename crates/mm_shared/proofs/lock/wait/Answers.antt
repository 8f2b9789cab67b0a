use Rattle.mm_shared.proofs.Words.{rules, ◌≡◌, arith}
use Rattle.mm_shared.proofs.Kept.{tries_kept}
use Rattle.mm_shared.proofs.lock.wait.Goals as goal

pub swap-requires : goal.swap-requires
swap-requires g c =
    let same : c.loop.seat.me ≡ c.args.seat.now.me = search rules in
    rw same (
      search rules,
      search rules,
      tries_kept _ _ _ _ _ (λ k. 2) _ 2 0 c.requires.there.opened (λ k. omega arith)
          c.requires.may.rest c.requires.may.seated,
    )
