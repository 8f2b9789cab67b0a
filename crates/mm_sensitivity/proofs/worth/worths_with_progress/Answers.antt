use Rattle.std.proofs.Common.{arith}
use Rattle.mm_sensitivity.proofs.Listing.{items_more, each_more}
use Rattle.mm_sensitivity.proofs.worth.worths_with_progress.Goals as goal

pub loop-item-preserved : goal.loop-item-preserved
loop-item-preserved g c =
    let old = c.loop-item.worths.items in
    let new = c.push.new.self.items in
    let worth = c.in_ok-worth.worth in
    let before = c.loop-item.invariant in
    let added = c.in_ok-push.ensures.items in
    record {
      items = items_more old new c.deref-item-items.result.now c.loop-item.item-index worth _
          (omega (arith, c.loop-item-test.true, c.loop-item.auto.item-index-end, c.deref-item-items.ensures.len))
          before.items c.in_ok-worth.ensures.item added;
      each = each_more c.args.problem.now old new worth before.each
          (rw c.in_ok-base.ensures.problem at c.in_ok-worth.ensures.worth) added;
    }
