use Rattle.std.proofs.Common.{Some, arith, length-set}
use Rattle.mm_store.proofs.ContentLemmas.{same_buffer}
use Rattle.mm_store.proofs.TableLemmas.{length-packets, free_within, table_append, packets_append}
use Rattle.mm_store.proofs.table.BlockTablePacketQueue.append.Goals as goal

pub unwrap-number-requires : goal.unwrap-number-requires
unwrap-number-requires c =
    let table = c.self.invariant.table in
    let counted = length-packets _ _ _ table in
    c.pop.ensures.variant.1 (omega (arith, table.total, counted, rw (← c.self.view_is) at c.requires, c.self.inside.free.ok.0))

pub index_mut-requires : goal.index_mut-requires
index_mut-requires c =
    let split = rw c.unwrap-number.ensures at c.pop.ensures.items in
    let table = rw split at c.self.invariant.table in
    omega (arith, free_within _ _ _ _ c.args.newest table, c.self.inside.blocks.ok.0)

pub invariant_of-self : goal.invariant_of-self
invariant_of-self c =
    let split = rw c.unwrap-number.ensures at c.pop.ensures.items in
    let table = rw split at c.self.invariant.table in
    let same_size = length-set c.self.inside.blocks.items c.unwrap-number.result (Some c.args.newest) in
    record {
      table = rw c.push_back_reserved.ensures.items (table_append _ _ _ _ c.args.newest table);
      queue_fits = omega (arith, same_size, c.self.invariant.queue_fits, c.push_back_reserved.ensures.capacity);
      free_fits = omega (arith, same_size, c.self.invariant.free_fits, c.pop.ensures.capacity);
    }

pub returns : goal.returns
returns c =
    let split = rw c.unwrap-number.ensures at c.pop.ensures.items in
    let table = rw split at c.self.invariant.table in
    let same_size = length-set c.self.inside.blocks.items c.unwrap-number.result (Some c.args.newest) in
    rw (← c.self.view_is) (record { appended = rw c.push_back_reserved.ensures.items (same_buffer _ _ _ (packets_append _ _ _ _ c.args.newest table) same_size) })
