use Rattle.mm_run.proofs.Dealt.{untaken_counted}
use Rattle.mm_run.proofs.texts.read_sources_and_links.Goals as goal

pub returns-clause-counts : goal.returns-clause-counts
returns-clause-counts c = λ lines said.
    rw (c.read_noting.ensures.start, c.new-count.ensures.start) at (c.in_ok-opening.ensures.counts lines said)

pub returns-clause-untaken : goal.returns-clause-untaken
returns-clause-untaken c =
    let says = c.in_ok-opening.ensures.found in
    untaken_counted _ _ says.0 _ _ _ says.2 (c.in_ok-opening.ensures.ranged says.0 says.1)
    (returns-clause-counts c says.0 says.1)
