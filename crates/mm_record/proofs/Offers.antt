-- The offers of packets to a store, one after another.
use Rattle.mm_record.proofs.Words.{◌≡◌, ℕ, List, ◌++◌, refl, map-append, filter-append, SpacePacket, RecordingContext}
use Rattle.mm_record.proofs.Words.{offers}

-- the offers of packets, one after another
pub offers_more : (e : RecordingContext) (k : ℕ) (ps qs : List SpacePacket)
    → offers e k (ps ++ qs) ≡ offers e k ps ++ offers e k qs
offers_more e k ps qs = simp (filter-append, map-append) refl
