use Rattle.mm_service.proofs.Words.{length, ap, ◌∙◌, arith, fold, All-tail, HasCount, Queue, with_report}
use Rattle.std.specs.Vec.Iter.{into_iter_items}
use Rattle.mm_service.proofs.applying.wait_for_all.Goals as goal

pub loop-report-preserved : goal.loop-report-preserved
loop-report-preserved c =
    let before = c.loop-report.invariant in
    let steps = c.in-Some.ensures.steps in
    let rest = into_iter_items c.next.new.self in
    let asked = c.args.asked.now in
    let wait = c.wait_for.ensures in
    let first = steps.0 in
    let after = rw first at before.after in
    let counts = rw first at before.counts in
    record {
      can = tt;
      finite = tt;
      counted = omega (arith, before.counted, steps.1, ap length first);
      after = ap (λ (q : Queue). fold (with_report asked) q rest) wait.after ∙ after;
      counts = All-tail HasCount c.in-Some.report rest counts;
      room = omega (arith, before.room, ap length first, wait.len, wait.capacity);
    }
