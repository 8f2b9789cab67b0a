-- What a write to a place does to an array of blocks.
use Rattle.std.proofs.Common.{◌≡◌, ◌≢◌, ℕ, ◌+◌, ◌-◌, ◌<◌, ◌≤◌, true, ◌==◌, List, ◌++◌, length, take, drop, set, slice_get, Some, IsSome}
use Rattle.std.proofs.Common.{Vec, Global, refl, sym, ap, ◌∙◌, inl, inr, arith, le-leb, eq-eqb, get_or, nat_le}
use Rattle.std.specs.Option.{option_and_then}
use Rattle.std.proofs.lemmas.Bool.{cases_lt, true≢false}
use Rattle.std.proofs.lemmas.List.{take_at}
use Rattle.std.proofs.lemmas.Option.{slice_get-get_or, slice_get_past}
use Rattle.mm_packet.specs.declared.block.TheConstants.{BLOCK}
use Rattle.mm_blocks.specs.declared.block.Block.{Block}
use Rattle.mm_blocks.specs.declared.layout.Layout.{Layout}
use Rattle.mm_blocks.specs.Block.{check_of, read_of, written}
use Rattle.mm_blocks.specs.Layout.{chunk_of, place_in, block_in, AreChunks}
use Rattle.mm_blocks.proofs.LayoutLemmas.{has_place, one_place, slice_get-some, block_in-here, block_in-other, chunks-written}

-- a packet that was written is read again
pub written_is_read : (time : ℕ) (packet : List ℕ) (block : Block) → length packet ≤ BLOCK
    → read_of (written time packet block) ≡ Some (time, packet)
written_is_read time packet block fits =
    let short : nat_le (length packet) BLOCK ≡ true = le-leb (length packet) BLOCK fits in
    let agreed : (length packet + (65535 - length packet) == 65535) ≡ true = eq-eqb (length packet + (65535 - length packet)) 65535 (omega arith) in
    let taken : take (length packet) (packet ++ drop (length packet) block.octets) ≡ packet = take_at packet (drop (length packet) block.octets) (length packet) refl in
    let passes : (check_of time packet == check_of time packet) ≡ true = eq-eqb (check_of time packet) (check_of time packet) refl in
    rw (taken, short, agreed, passes) refl

module _ (layout : Layout) (room : ℕ) (chunks : List (Vec Block Global)) (place i j time : ℕ) (packet : List ℕ)
    (old new : Vec Block Global) (are : AreChunks layout room chunks)
    (some : IsSome (block_in chunks (chunk_of layout place) (place_in layout place)))
    (chunk_is : i ≡ chunk_of layout place) (place_is : j ≡ place_in layout place) (at : old ≡ get_or chunks i old)
    (writes : (block : Block) → slice_get old.items j ≡ Some block → new.items ≡ set old.items j (written time packet block)) where
  found : IsSome (block_in chunks i j)
  found = rw (chunk_is, place_is) some

  pub chunk_within : i < length chunks
  chunk_within = rw chunk_is (has_place layout room chunks place are some).1

  here : slice_get chunks i ≡ Some old
  here = slice_get-get_or chunks i old chunk_within ∙ ap Some (sym at)

  pub block_within : j < length old.items
  block_within = elim (cases_lt j (length old.items)) [
    | inl less ↦ less
    | inr past ↦ absurd (true≢false (sym (rw (slice_get_past old.items j past) at (rw here at found))))
  ]

  before : (block : Block) × (slice_get old.items j ≡ Some block)
  before = slice_get-some old.items j block_within

  pub still_chunks : AreChunks layout room (set chunks i new)
  still_chunks = chunks-written chunks i j old new (written time packet before.0) here (writes before.0 before.1) layout room are

  pub is_written : length packet ≤ BLOCK
      → option_and_then read_of (block_in (set chunks i new) (chunk_of layout place) (place_in layout place)) ≡ Some (time, packet)
  is_written fits =
      rw (← chunk_is, ← place_is, block_in-here chunks i j old new (written time packet before.0) here (writes before.0 before.1) block_within)
      (written_is_read time packet before.0 fits)

  pub others_stay : (other : ℕ) → other ≢ place
      → block_in (set chunks i new) (chunk_of layout other) (place_in layout other) ≡ block_in chunks (chunk_of layout other) (place_in layout other)
  others_stay other apart =
      block_in-other chunks i j old new (written time packet before.0) here (writes before.0 before.1) (chunk_of layout other) (place_in layout other)
      (λ same same_place. apart (one_place layout other place (same ∙ chunk_is) (same_place ∙ place_is)))
