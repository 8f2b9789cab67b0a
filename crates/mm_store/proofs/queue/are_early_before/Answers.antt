use Rattle.std.proofs.Common.{◌≡◌, ◌+◌, ◌-◌, arith}
use Rattle.mm_store.proofs.ContentLemmas.{early_where}
use Rattle.mm_store.proofs.queue.are_early_before.Goals as goal

pub returns-else-place-eq0 : goal.returns-else-place-eq0
returns-else-place-eq0 g c =
    let all : c.args.place - 1 + 1 ≡ c.args.place = omega arith in
    rw all at (early_where _ (c.args.place - 1) c.args.passed _ c.requires.rising c.at.ensures.at)
