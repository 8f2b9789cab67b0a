use Rattle.std.proofs.Common.{arith}
use Rattle.mm_overlap.proofs.BetterLemmas.{offers_more, ends_more}
use Rattle.mm_overlap.proofs.serving.offers_of.Goals as goal

pub loop-i-preserved : goal.loop-i-preserved
loop-i-preserved c = record {
  offers = offers_more c.args.passes.now c.args.octets.now c.loop-i.i _ c.end_of.result c.below.result _
      c.loop-i.offers.items c.push.new.self.items c.in_ok-push.ensures.items c.loop-i.invariant.offers (omega arith)
      (omega (arith, c.requires)) c.end_of.ensures.end c.below.ensures;
  ends = ends_more c.args.passes.now c.loop-i.i _ (omega arith) c.loop-i.invariant.ends c.end_of.ensures.fits;
}

pub returns-clause-ends : goal.returns-clause-ends
returns-clause-ends c = λ i below. c.loop-i.invariant.ends i (omega arith)
