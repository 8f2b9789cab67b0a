use Rattle.std.proofs.Common.{◌≡◌, None, Some, sym, ◌∙◌, arith, length-set}
use Rattle.std.proofs.lemmas.List.{get_or_default}
use Rattle.mm_store.specs.Table.{slot}
use Rattle.mm_store.proofs.TableLemmas.{first_within, table_take, packets_take}
use Rattle.mm_store.proofs.table.BlockTablePacketQueue.take_oldest.Goals as goal

pub invariant_of-self : goal.invariant_of-self
invariant_of-self c =
    let split = rw c.unwrap-number.ensures at c.pop_front.ensures.items in
    let table = rw split at c.self.invariant.table in
    let same_size = length-set c.self.inside.blocks.items c.unwrap-number.result None in
    rw c.take.ensures.after (record {
      table = rw c.push_reserved.ensures.items (table_take _ _ _ _ table);
      queue_fits = omega (arith, same_size, c.self.invariant.queue_fits, c.pop_front.ensures.capacity);
      free_fits = omega (arith, same_size, c.self.invariant.free_fits, c.push_reserved.ensures.capacity);
    })

pub returns-clause-oldest : goal.returns-clause-oldest
returns-clause-oldest c =
    let blocks = c.self.inside.blocks.items in
    let number = c.unwrap-number.result in
    let split = rw c.unwrap-number.ensures at c.pop_front.ensures.items in
    let table = rw split at c.self.invariant.table in
    let here : slot blocks number ≡ Some c.unwrap.result =
    get_or_default blocks number None c.index_mut.result.now (first_within _ _ _ _ table) ∙ sym c.index_mut.ensures.value ∙ sym c.take.ensures.value ∙ c.unwrap.ensures in
    rw (← c.self.view_is, c.take.ensures.after, split) (packets_take _ _ _ _ table _ here)
