use Rattle.std.proofs.Common.{◌≡◌, ◌++◌, length}
use Rattle.mm_store.proofs.queue.move_all.Given as goal

-- what was moved and what is left are the packets of both, in order
abbrev pub invariant-loop-to : goal.invariant-loop-to
invariant-loop-to g l =
    let source = g.F.PacketQueue.held in
    let target = g.T.PacketQueue.held in
    record {
      order : (target l.to).items ++ (source l.from).items ≡ (target l.fn.to).items ++ (source l.fn.from).items;
      capacity : (target l.to).capacity ≡ (target l.fn.to).capacity;
      source_capacity : (source l.from).capacity ≡ (source l.fn.from).capacity;
    }

abbrev pub decreases-loop-to : goal.decreases-loop-to
decreases-loop-to g l = length (g.F.PacketQueue.held l.from).items
