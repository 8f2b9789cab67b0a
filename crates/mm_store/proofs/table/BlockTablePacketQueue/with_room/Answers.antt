use Rattle.std.proofs.Common.{[], sym, ap, length, None, ◌∙◌, arith}
use Rattle.std.proofs.lemmas.List.{length_push}
use Rattle.mm_store.proofs.TableLemmas.{table_grow}
use Rattle.mm_store.proofs.table.BlockTablePacketQueue.with_room.Goals as goal

pub loop-number-preserved : goal.loop-number-preserved
loop-number-preserved c =
    let blocks = c.loop-number.blocks.items in
    let pushed = c.push_reserved.ensures.items in
    record {
      table = rw (pushed, c.push_reserved-in-loop-number.ensures.items) (table_grow blocks [] _ c.loop-number.number (sym c.loop-number.invariant.counted) c.loop-number.invariant.table);
      counted = omega (arith, ap length pushed, length_push blocks None);
      blocks_fit = c.push_reserved.ensures.capacity ∙ c.loop-number.invariant.blocks_fit;
      free_fits = c.push_reserved-in-loop-number.ensures.capacity ∙ c.loop-number.invariant.free_fits;
    }
