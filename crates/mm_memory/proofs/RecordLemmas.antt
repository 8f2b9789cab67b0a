-- Stores keep their identifiers while packets are offered to them.
use Rattle.mm_memory.proofs.Words.{◌≡◌, ℕ, List, [], ◌∷◌, ◌++◌, length, take, drop, refl, ap, ◌∙◌, SpacePacket, Held}
use Rattle.mm_memory.proofs.Words.{ids_of, after_offer, after_offers, Option, Some, None}
use Rattle.std.proofs.Math.Seq.{take-append_seam}

-- a store has the identifier that it had
pub id_kept : (now : ℕ) (h : Held) (packet : Option SpacePacket) → (after_offer now h packet).id ≡ h.id
id_kept now h (Some packet) = refl
id_kept now h None = refl

-- the stores have the identifiers that they had
pub ids_kept : (now : ℕ) (packet : Held → Option SpacePacket) (stores : List Held)
    → ids_of (after_offers now packet stores) ≡ ids_of stores
ids_kept now packet [] = refl
ids_kept now packet (h ∷ hs) =
    ap (λ (id : List ℕ). id ∷ ids_of (after_offers now packet hs)) (id_kept now h (packet h))
    ∙ ap (λ (ids : List (List ℕ)). h.id ∷ ids) (ids_kept now packet hs)

-- what is written over a whole list is all that there is
pub all_written : (n : ℕ) (new old : List Held) → n ≡ length new → take n (new ++ drop (length new) old) ≡ new
all_written n new old is =
    ap (λ (k : ℕ). take k (new ++ drop (length new) old)) is ∙ take-append_seam new (drop (length new) old)
