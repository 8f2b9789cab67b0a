-- What an array of blocks holds.
use Rattle.std.specs.Prelude.{◌≡◌, ◌≢◌, ℕ, List, Option, Some, IsSome}
use Rattle.std.specs.Option.{option_and_then}
use Rattle.mm_blocks.specs.Block.{read_of}
use Rattle.mm_blocks.specs.Layout.{chunk_of, place_in, block_in}
use Rattle.mm_blocks.specs.declared.block.Block.{Block}
use Rattle.mm_blocks.specs.declared.blocks.Blocks.{Blocks}

-- the block at a place, if its memory was taken
abbrev pub block_at : Blocks → ℕ → Option Block
block_at blocks place = block_in blocks.chunks.items (chunk_of blocks.layout place) (place_in blocks.layout place)

-- what the block at a place gives
abbrev pub read_at : Blocks → ℕ → Option (ℕ × List ℕ)
read_at blocks place = option_and_then read_of (block_at blocks place)

-- how many places an array has
abbrev pub room_of : Blocks → ℕ
room_of blocks = blocks.room

-- a packet was written at a place, and no other place has changed
pub record IsWrittenAt (place : ℕ) (packet : ℕ × List ℕ) (old new : Blocks) : Type 0 where
  pub room : room_of new ≡ room_of old
  pub here : read_at new place ≡ Some packet
  pub others : (other : ℕ) → other ≢ place → block_at new other ≡ block_at old other

-- each block that was there still is, as it was
pub record KeepsBlocks (old new : Blocks) : Type 0 where
  pub room : room_of new ≡ room_of old
  pub kept : (place : ℕ) → IsSome (block_at old place) → block_at new place ≡ block_at old place
