use Rattle.mm_store.proofs.ContentLemmas.{late_where}
use Rattle.mm_store.proofs.queue.are_late_from.Goals as goal

pub returns-else-place-len : goal.returns-else-place-len
returns-else-place-len g c = late_where _ _ c.args.passed _ c.requires.rising c.at.ensures.at
