-- What a full circular store answers to an offer.
use Rattle.mm_desk.proofs.Words.{◌≡◌, ℕ, ◌+◌, ◌<◌, ◌≤◌, true, List, [], ◌∷◌, length, max, All, refl, ap, ◌∙◌, arith}
use Rattle.mm_desk.proofs.Words.{Option, Some, None, Ok, le-ltb, ne_eqb, nat_tests, All-head, Kind, Circular}
use Rattle.mm_desk.proofs.Words.{SpacePacket, Stored, Offered, KeptOver, Lost, Store, IsStore, clock_end, is_in}
use Rattle.mm_desk.proofs.Words.{first_in, put, put_full, answer_of}

-- the answer of a full circular store, by the oldest packet that is found
abbrev over : Stored → Option Stored → Offered
over new (Some oldest) = KeptOver new.time oldest.packet
over new None = Lost new.packet

-- the first packet of all is the oldest
by_content : (s : Store) (new : Stored) (content : List Stored) → All (λ (p : Stored). 1 ≤ p.time) content
    → All (λ (p : Stored). p.time ≤ s.last) content → s.last ≤ clock_end
    → answer_of (put_full Circular content s new).0 ≡ Ok (over new (first_in 0 clock_end 0 content))
by_content s new [] from_one up_to_last fits = refl
by_content s new (x ∷ xs) from_one up_to_last fits =
    let first : 1 ≤ x.time = All-head (λ (p : Stored). 1 ≤ p.time) x xs from_one in
    let last : x.time ≤ s.last = All-head (λ (p : Stored). p.time ≤ s.last) x xs up_to_last in
    let here : is_in 0 clock_end 0 x ≡ true = grind (arith, nat_tests) in
    rw here

-- what a put into a full circular store is answered, before the end of the clock
pub put_over : (s : Store) (now : ℕ) (packet : SpacePacket) → IsStore s → s.last < clock_end
    → s.size ≤ length s.content → s.kind ≡ Circular
    → answer_of (put s now packet).0 ≡ Ok
    (over (record { time = max now (s.last + 1); packet = packet }) (first_in 0 clock_end 0 s.content))
put_over s now packet sound early full kind =
    let last = ne_eqb s.last clock_end (λ same. omega arith) in
    let new : Stored = record { time = max now (s.last + 1); packet = packet } in
    rw (last, le-ltb (length s.content) s.size full)
    (ap (λ (k : Kind). answer_of (put_full k s.content s new).0) kind ∙ by_content s new s.content sound.from_one
    sound.up_to_last (omega arith))
