use Rattle.std.proofs.Common.{arith}
use Rattle.mm_store.proofs.ContentLemmas.{early_up_to, late_from}
use Rattle.mm_store.proofs.queue.search_place.Goals as goal

pub loop-low-preserved-then-at-passed : goal.loop-low-preserved-then-at-passed
loop-low-preserved-then-at-passed g c = record {
  in_order = omega arith;
  within = c.loop-low.invariant.within;
  before = early_up_to _ _ c.args.passed _ c.requires c.at.ensures.at c.if-at-passed.true;
  from = c.loop-low.invariant.from;
}

pub loop-low-preserved : goal.loop-low-preserved
loop-low-preserved g c = record {
  in_order = omega arith;
  within = omega arith;
  before = c.loop-low.invariant.before;
  from = late_from _ _ c.args.passed _ c.requires c.at.ensures.at c.if-at-passed.false;
}
