use Rattle.std.proofs.Common.{arith}
use Rattle.mm_store.proofs.TableLemmas.{length-packets}
use Rattle.mm_store.proofs.table.BlockTablePacketQueue.len.Goals as goal

pub returns : goal.returns
returns c =
    let counted = length-packets _ _ _ c.self.invariant.table in
    rw (← c.self.view_is) (record { len = omega (arith, counted, c.self.inside.queue.ok.0) })
