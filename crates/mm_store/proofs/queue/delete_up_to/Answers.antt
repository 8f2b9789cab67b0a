use Rattle.std.proofs.Common.{◌≡◌, ◌+◌, length, sym, ap, ◌∙◌, arith}
use Rattle.mm_store.specs.Content.{kept_after, count_up_to}
use Rattle.mm_store.proofs.ContentLemmas.{same_buffer, IsRising-rest, kept_after-oldest, all_kept}
use Rattle.mm_store.proofs.queue.delete_up_to.Given.{Over}
use Rattle.mm_store.proofs.queue.delete_up_to.Goals as goal

pub loop-queue-preserved : goal.loop-queue-preserved
loop-queue-preserved g c =
    let held = g.Q.PacketQueue.held in
    let x = c.take_oldest-removed.result in
    let rest = (held c.take_oldest-removed.new.self).items in
    let split = c.take_oldest-removed.ensures.oldest in
    let rising = rw split at c.loop-queue.invariant.rising in
    let begins = rw split at c.loop-queue-test.ensures in
    record {
      rising = IsRising-rest x rest rising;
      kept = sym (kept_after-oldest c.args.limit x rest (sym begins)) ∙ ap (kept_after c.args.limit) (sym split) ∙ c.loop-queue.invariant.kept;
      capacity = cc;
    }

-- what is left is what the deletion keeps, and the rest is its count
done : (g : Over) (c : goal.After-len g) → ((g.Q.PacketQueue.held c.loop-queue.queue).items ≡ kept_after c.args.limit (g.Q.PacketQueue.held c.args.queue.now).items) × (count_up_to c.args.limit (g.Q.PacketQueue.held c.args.queue.now).items + length (g.Q.PacketQueue.held c.loop-queue.queue).items ≡ length (g.Q.PacketQueue.held c.args.queue.now).items)
done g c = all_kept _ _ _ c.loop-queue.invariant.rising c.loop-queue.invariant.kept (sym c.loop-queue-test.ensures)

pub overflow_sub-result : goal.overflow_sub-result
overflow_sub-result g c = omega (arith, (done g c).1)

pub returns-clause-kept : goal.returns-clause-kept
returns-clause-kept g c = same_buffer _ _ _ (done g c).0 c.loop-queue.invariant.capacity

pub returns-clause-count : goal.returns-clause-count
returns-clause-count g c = omega (arith, (done g c).1)
