use Rattle.std.proofs.Common.{length, ap, arith, length-append}
use Rattle.mm_store.specs.declared.stored.Stored.{Stored}
use Rattle.mm_store.proofs.queue.move_all.Goals as goal

pub append-requires : goal.append-requires
append-requires g c =
    let order = ap length c.loop-to.invariant.order in
    let left = ap length c.take_oldest.ensures.oldest in
    omega (arith, order, left, length-append {A = Stored})
