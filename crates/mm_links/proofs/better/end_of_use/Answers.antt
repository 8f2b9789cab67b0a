use Rattle.std.proofs.Common.{arith}
use Rattle.mm_links.proofs.Serving.{part_more}
use Rattle.mm_links.proofs.better.end_of_use.Goals as goal

pub loop-end-preserved : goal.loop-end-preserved
loop-end-preserved c =
    part_more c.args.offers.now c.args.pass c.args.time c.loop-end.end c.next_edge-end-in-loop-end.result
    (omega (arith, c.loop-end.invariant.some)) (omega (arith, c.next_edge-end-in-loop-end.ensures.after))
    c.loop-end.invariant.best (c.stays.ensures.best c.loop-end-test.true) c.next_edge-end-in-loop-end.ensures.quiet
