use Rattle.std.proofs.Common.{◌≡◌, [], length, vec_capacity}
use Rattle.mm_store.specs.Table.{IsTable}
use Rattle.mm_store.proofs.table.BlockTablePacketQueue.with_room.Given as goal

-- the blocks so far make a table with all its numbers free
abbrev pub invariant-loop-number : goal.invariant-loop-number
invariant-loop-number l =
    record {
      table : IsTable l.blocks.items [] l.free.items;
      counted : length l.blocks.items ≡ l.number;
      blocks_fit : vec_capacity l.blocks ≡ l.room;
      free_fits : vec_capacity l.free ≡ l.room;
    }
