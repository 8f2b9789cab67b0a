-- Laws of packet stores.
use Rattle.std.specs.Prelude.{◌≡◌, ℕ, ◌+◌, ◌^◌, ◌<◌, ◌≤◌, min, length}
use Rattle.mm_packet.specs.Packet.{SpacePacket}
use Rattle.mm_store.specs.declared.put.Put.{Put}
use Rattle.mm_store.specs.declared.put.Put.TheVariants.{Kept, KeptOver, Lost, ClockEnd}
use Rattle.mm_store.specs.Content.{Store, IsStore, clock_end, put, delete_up_to}

-- how many packets are handed back
abbrev pub handed_back : Put → ℕ
handed_back (Kept time) = 0
handed_back (KeptOver time oldest) = 1
handed_back (Lost packet) = 1
handed_back (ClockEnd packet) = 1

-- one packet more is held, up to the size, and the one that does not fit is handed back
pub record LosesOverflow (s after : Store) (answer : Put) : Type 0 where
  pub volume : length after.content ≡ min (length s.content + 1) s.size
  pub lost : handed_back answer + length after.content ≡ length s.content + 1

-- every put before the end of the clock loses the overflow alone
abbrev pub LoseAlike : Type 0
LoseAlike = (s : Store) (now : ℕ) (packet : SpacePacket) → 1 ≤ s.size → length s.content ≤ s.size → s.last < clock_end
    → LosesOverflow s (put s now packet).1 (put s now packet).0

-- a put at any moment of the clock leaves a store
abbrev pub PutsKeepStores : Type 0
PutsKeepStores = (s : Store) (now : ℕ) (packet : SpacePacket) → now < 2 ^ 64 → IsStore s → IsStore (put s now packet).1

-- a deletion leaves a store
abbrev pub DeletionsKeepStores : Type 0
DeletionsKeepStores = (s : Store) (limit : ℕ) → IsStore s → IsStore (delete_up_to s limit)
