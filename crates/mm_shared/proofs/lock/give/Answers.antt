use Rattle.mm_shared.proofs.Words.{rules}
use Rattle.mm_shared.proofs.Kept.{gives_kept}
use Rattle.mm_shared.proofs.lock.give.Goals as goal

pub swap-requires : goal.swap-requires
swap-requires g c = (search rules, search rules, gives_kept _ _ _ _ _ _ _ _ c.requires.there.opened c.requires.called)
