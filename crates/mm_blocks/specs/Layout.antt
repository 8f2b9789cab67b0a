-- How an array of blocks lies in memory. No public clause cites this module but through the words of `Blocks`.
use Rattle.std.specs.Prelude.{◌≡◌, ℕ, ◌-◌, ◌*◌, ◌/◌, ◌%◌, min, List, length, slice_get, Option, Some, Vec}
use Rattle.std.specs.Option.{option_and_then}
use Rattle.std.specs.Global.{Global}
use Rattle.mm_blocks.specs.declared.block.Block.{Block}
use Rattle.mm_blocks.specs.declared.layout.Layout.{Layout}
use Rattle.mm_blocks.specs.declared.layout.Layout.TheVariants.{Whole, Chunks}
use Rattle.mm_blocks.specs.declared.layout.TheConstants.{CHUNK}

-- the chunk that a place stands in
abbrev pub chunk_of : Layout → ℕ → ℕ
chunk_of Whole place = 0
chunk_of Chunks place = place / CHUNK

-- the place there
abbrev pub place_in : Layout → ℕ → ℕ
place_in Whole place = place
place_in Chunks place = place % CHUNK

-- the blocks of a chunk, in an array for so many
abbrev pub chunk_len : Layout → ℕ → ℕ → ℕ
chunk_len Whole room chunk = room
chunk_len Chunks room chunk = min CHUNK (room - chunk * CHUNK)

-- the block at this place of this chunk
abbrev pub block_in : List (Vec Block Global) → ℕ → ℕ → Option Block
block_in chunks chunk place = option_and_then (λ blocks. slice_get blocks.items place) (slice_get chunks chunk)

-- each chunk has its blocks
abbrev pub AreChunks : Layout → ℕ → List (Vec Block Global) → Type 0
AreChunks layout room chunks = (chunk : ℕ) (blocks : Vec Block Global) → slice_get chunks chunk ≡ Some blocks → length blocks.items ≡ chunk_len layout room chunk
