use Rattle.std.proofs.Common.{◌-◌, ◌<◌, ◌≤◌, length, take, drop, All}
use Rattle.mm_store.proofs.queue.search_place.Given as goal

-- the packets before `low` are too early, and those from `high` on are not
abbrev pub invariant-loop-low : goal.invariant-loop-low
invariant-loop-low g l =
    let held = (g.Q.PacketQueue.held l.queue).items in
    record {
      in_order : l.low ≤ l.high;
      within : l.high ≤ length held;
      before : All (λ p. p.time ≤ l.passed) (take l.low held);
      from : All (λ p. l.passed < p.time) (drop l.high held);
    }

abbrev pub decreases-loop-low : goal.decreases-loop-low
decreases-loop-low g l = l.high - l.low
