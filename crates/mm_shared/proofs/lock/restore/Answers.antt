use Rattle.mm_shared.proofs.Words.{rules}
use Rattle.mm_shared.proofs.Kept.{restores_kept}
use Rattle.mm_shared.proofs.lock.restore.Goals as goal

pub swap-requires : goal.swap-requires
swap-requires c = (search rules, search rules, restores_kept _ _ _ _ _ _ c.requires.there.opened c.requires.same)
