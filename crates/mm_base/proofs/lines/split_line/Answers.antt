use Rattle.mm_base.proofs.LineLemmas.{split_at_feed, no_feed}
use Rattle.std.proofs.Common.{sym, ◌∙◌}
use Rattle.mm_base.proofs.lines.split_line.Goals as goal

pub returns-in-Some-clause-lines : goal.returns-in-Some-clause-lines
returns-in-Some-clause-lines c = split_at_feed c.args.text.now c.in-Some.feed (sym c.first_feed.ensures ∙ c.in-Some.is)

pub returns-in-None-clause-lines : goal.returns-in-None-clause-lines
returns-in-None-clause-lines c = no_feed c.args.text.now (sym c.first_feed.ensures ∙ c.in-None.is)
