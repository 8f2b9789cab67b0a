use Rattle.std.proofs.Common.{◌≡◌, length}
use Rattle.mm_store.specs.Content.{IsRising, kept_after}
use Rattle.mm_store.proofs.queue.delete_up_to.Given as goal

-- so far only packets that the deletion removes were taken out
abbrev pub invariant-loop-queue : goal.invariant-loop-queue
invariant-loop-queue g l =
    let held = g.Q.PacketQueue.held in
    record {
      rising : IsRising (held l.queue).items;
      kept : kept_after l.limit (held l.queue).items ≡ kept_after l.limit (held l.fn.queue).items;
      capacity : (held l.queue).capacity ≡ (held l.fn.queue).capacity;
    }

abbrev pub decreases-loop-queue : goal.decreases-loop-queue
decreases-loop-queue g l = length (g.Q.PacketQueue.held l.queue).items
