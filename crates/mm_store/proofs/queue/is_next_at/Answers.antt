use Rattle.std.proofs.Common.{arith}
use Rattle.mm_store.proofs.ContentLemmas.{early_before, late_from}
use Rattle.mm_store.proofs.queue.is_next_at.Goals as goal

pub returns-then-time-passed-eq1 : goal.returns-then-time-passed-eq1
returns-then-time-passed-eq1 g c = λ next. record {
  within = omega (arith, c.requires.within);
  before = early_before _ _ c.args.passed _ c.requires.rising c.at.ensures.at (omega arith);
  from = late_from _ _ c.args.passed _ c.requires.rising c.at.ensures.at c.if-time-passed.false;
}

pub returns-else-time-passed-eq1 : goal.returns-else-time-passed-eq1
returns-else-time-passed-eq1 g c = λ early. record {
  within = omega (arith, c.requires.within);
  before = c.are_early_before.ensures.0 early;
  from = late_from _ _ c.args.passed _ c.requires.rising c.at.ensures.at c.if-time-passed.false;
}
