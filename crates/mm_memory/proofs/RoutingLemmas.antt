-- The stores that a packet is routed to are those to which a row of its report type leads.
use Rattle.mm_memory.proofs.Words.{◌≡◌, suc, ℕ, ◌+◌, add-zero, Bool, true, false, not, cond, nat_lt, ◌&&◌, ◌||◌, List}
use Rattle.mm_memory.proofs.Words.{[], ◌∷◌, ◌++◌, take, drop, refl, sym, ap, ◌∙◌, arith, length, if◌then◌else◌, ◌==◌}
use Rattle.mm_memory.proofs.Words.{Some, None, eqb-true, nil_from_length, prefix_len-le-length, filter, list_any}
use Rattle.mm_memory.proofs.Words.{position, position_or_len, unwrap_or, RouteRow, SpacePacket, is_for, is_to, Held}
use Rattle.mm_memory.proofs.Words.{Holdings, is_routed, packet_for, after_offers, after_offer, tally_over, after_record}
use Rattle.mm_memory.proofs.Words.{rows_for, leads_to, packet_along, passed}
use Rattle.std.proofs.lemmas.Bool.Decides.{nat_tests}
use Rattle.mm_packet.specs.declared.header.PacketType.{PacketType}
use Rattle.mm_packet.specs.declared.header.PacketType.TheVariants.{Telecommand, Telemetry}
use Rattle.mm_memory.specs.declared.tally.Tally.{Tally}
use Rattle.mm_memory.specs.Tallies.{nothing, plus}
use Rattle.mm_memory.specs.Recording.{tally_in, tally_after}

-- an element passes two tests where one that passes the first passes the second
any-both : {X : Type 0} (p q : X → Bool) (xs : List X) → list_any (λ x. p x && q x) xs ≡ list_any q (filter p xs)
any-both p q [] = refl
any-both p q (x ∷ xs) = by_test (p x) (any-both p q xs)
  where
    by_test : (b : Bool) → list_any (λ y. p y && q y) xs ≡ list_any q (filter p xs)
        → ((b && q x) || list_any (λ y. p y && q y) xs) ≡ list_any q (if b then x ∷ filter p xs else filter p xs)
    by_test true rest = ap (λ (b : Bool). q x || b) rest
    by_test false rest = rest

-- a packet goes into a store where a row of its report type leads there
routed : (routes : List RouteRow) (p : SpacePacket) (id : List ℕ)
    → is_routed routes id p ≡ leads_to (rows_for routes p) id
routed routes p id =
    elim p.kind as (λ (kind : PacketType). is_routed routes id (record p { kind = kind })
    ≡ leads_to (rows_for routes (record p { kind = kind })) id) [
      | Telecommand source ↦ refl
      | Telemetry counter destination time ↦ any-both (is_for p.header.apid p.header.service p.header.subtype)
          (is_to id) routes
    ]

-- the packet for a store
along : (routes : List RouteRow) (p : SpacePacket) (h : Held)
    → packet_along (rows_for routes p) p h ≡ packet_for routes p h
along routes p h = ap (λ (b : Bool). if b then Some p else None) (sym (routed routes p h.id))

-- the stores after the packet was offered along the rows
pub after_along : (now : ℕ) (routes : List RouteRow) (p : SpacePacket) (stores : List Held)
    → after_offers now (packet_along (rows_for routes p) p) stores ≡ after_offers now (packet_for routes p) stores
after_along now routes p [] = refl
after_along now routes p (h ∷ hs) = rw (along routes p h, after_along now routes p hs) refl

-- and what became of it
pub tally_along : (now : ℕ) (routes : List RouteRow) (p : SpacePacket) (stores : List Held)
    → tally_over now (packet_along (rows_for routes p) p) stores ≡ tally_over now (packet_for routes p) stores
tally_along now routes p [] = refl
tally_along now routes p (h ∷ hs) = rw (along routes p h, tally_along now routes p hs) refl

-- where all stores are passed by, no row leads to the first, and all others are passed by
all_passed : (rows : List RouteRow) (h : Held) (hs : List Held) → passed rows (h ∷ hs) ≡ length (h ∷ hs)
    → (leads_to rows h.id ≡ false) × (passed rows hs ≡ length hs)
all_passed rows h hs all = by_test (leads_to rows h.id) all
  where
    by_test : (b : Bool) → cond (not b) (1 + passed rows hs) 0 ≡ length (h ∷ hs)
        → (b ≡ false) × (passed rows hs ≡ length hs)
    by_test true e = absurd (omega (arith, e))
    by_test false e = (refl, omega (arith, e))

-- stores to which no row leads stay as they are
pub after_none : (now : ℕ) (rows : List RouteRow) (p : SpacePacket) (stores : List Held)
    → passed rows stores ≡ length stores
    → after_offers now (packet_along rows p) stores ≡ stores
after_none now rows p [] all = refl
after_none now rows p (h ∷ hs) all =
    let none = all_passed rows h hs all in
    rw none.0 (ap (λ (xs : List Held). h ∷ xs) (after_none now rows p hs none.1))

-- and nothing becomes of the packet
pub tally_none : (now : ℕ) (rows : List RouteRow) (p : SpacePacket) (stores : List Held)
    → passed rows stores ≡ length stores
    → tally_over now (packet_along rows p) stores ≡ nothing
tally_none now rows p [] all = refl
tally_none now rows p (h ∷ hs) all =
    let none = all_passed rows h hs all in
    rw none.0 (ap (plus nothing) (tally_none now rows p hs none.1))

-- no row leads anywhere
lead_nowhere : (stores : List Held) → passed [] stores ≡ length stores
lead_nowhere [] = refl
lead_nowhere (h ∷ hs) = omega (arith, lead_nowhere hs)

pub empty_leads : (rows : List RouteRow) (stores : List Held) → (length rows == 0) ≡ true
    → passed rows stores ≡ length stores
empty_leads rows stores empty =
    ap (λ (rs : List RouteRow). passed rs stores) (nil_from_length rows (eqb-true (length rows) 0 empty))
    ∙ lead_nowhere stores

-- the memory whose stores were offered a packet along its rows
pub recorded_along : (now : ℕ) (p : SpacePacket) (m : Holdings) (rows : List RouteRow) (new : List Held)
    → rows ≡ rows_for m.routes p → new ≡ after_offers now (packet_along rows p) m.stores
    → ◌≡◌ {A = Holdings} (record m { stores = new }) (after_record now p m)
recorded_along now p m rows new is after =
    ap (λ (stores : List Held). let n : Holdings = record m { stores = stores } in n)
    (after ∙ ap (λ (rs : List RouteRow). after_offers now (packet_along rs p) m.stores) is
    ∙ after_along now m.routes p m.stores)

-- and what became of the packet
pub told_along : (now : ℕ) (p : SpacePacket) (m : Holdings) (rows : List RouteRow) (tally : Tally)
    → rows ≡ rows_for m.routes p → tally ≡ tally_over now (packet_along rows p) m.stores → tally ≡ tally_after now p m
told_along now p m rows tally is told =
    told ∙ ap (λ (rs : List RouteRow). tally_over now (packet_along rs p) m.stores) is
    ∙ tally_along now m.routes p m.stores

-- the memory after a packet whose rows lead to no store
pub recorded_none : (now : ℕ) (p : SpacePacket) (m : Holdings) (rows : List RouteRow) → rows ≡ rows_for m.routes p
    → passed rows m.stores ≡ length m.stores → m ≡ after_record now p m
recorded_none now p m rows is none =
    let leads = rw is at none in
    ap (λ (stores : List Held). let n : Holdings = record m { stores = stores } in n)
    (sym (sym (after_along now m.routes p m.stores) ∙ after_none now (rows_for m.routes p) p m.stores leads))

-- and what became of it
pub told_none : (now : ℕ) (p : SpacePacket) (m : Holdings) (rows : List RouteRow) → rows ≡ rows_for m.routes p
    → passed rows m.stores ≡ length m.stores → nothing ≡ tally_after now p m
told_none now p m rows is none =
    let leads = rw is at none in
    sym (sym (tally_along now m.routes p m.stores) ∙ tally_none now (rows_for m.routes p) p m.stores leads)

-- where a row leads to the first store and none to the others, the first alone is offered the packet
pub after_first : (now : ℕ) (rows : List RouteRow) (p : SpacePacket) (h h' : Held) (hs stores : List Held)
    → stores ≡ h ∷ hs → leads_to rows h.id ≡ true → passed rows hs ≡ length hs → h' ≡ after_offer now h (Some p)
    → h' ∷ hs ≡ after_offers now (packet_along rows p) stores
after_first now rows p h h' hs stores is leads none offered =
    ap (λ (x : Held). x ∷ hs) (offered ∙ ap (λ (b : Bool). after_offer now h (if b then Some p else None)) (sym leads))
    ∙ ap (λ (xs : List Held). after_offer now h (packet_along rows p h) ∷ xs) (sym (after_none now rows p hs none))
    ∙ ap (after_offers now (packet_along rows p)) (sym is)

-- nothing more is the same
plus_nothing : (t : Tally) → t ≡ plus t nothing
plus_nothing t = rw (add-zero t.kept, add-zero t.lost, add-zero t.refused) refl

-- and what became of it is all
pub tally_first : (now : ℕ) (rows : List RouteRow) (p : SpacePacket) (h : Held) (hs stores : List Held) (t : Tally)
    → stores ≡ h ∷ hs → leads_to rows h.id ≡ true → passed rows hs ≡ length hs → t ≡ tally_in now h (Some p)
    → t ≡ tally_over now (packet_along rows p) stores
tally_first now rows p h hs stores t is leads none told =
    told
    ∙ ap (λ (b : Bool). tally_in now h (if b then Some p else None)) (sym leads)
    ∙ plus_nothing (tally_in now h (packet_along rows p h))
    ∙ ap (plus (tally_in now h (packet_along rows p h))) (sym (tally_none now rows p hs none))
    ∙ ap (tally_over now (packet_along rows p)) (sym is)

-- the first place that passes, or the length, is what is found, or the length
pub place_or_length : (p : Held → Bool) (stores : List Held)
    → unwrap_or (position p stores) (length stores) ≡ position_or_len p stores
place_or_length p stores = by_test (nat_lt (position_or_len p stores) (length stores)) refl
  where
    by_test : (b : Bool) → nat_lt (position_or_len p stores) (length stores) ≡ b
        → unwrap_or (cond b (Some (position_or_len p stores)) None) (length stores) ≡ position_or_len p stores
    by_test true e = refl
    by_test false e = grind (arith, nat_tests, e, prefix_len-le-length (λ (h : Held). not (p h)) stores)

-- the first store that is not passed by
pub first_leads : (rows : List RouteRow) (h : Held) (hs : List Held) → passed rows (h ∷ hs) ≡ 0
    → leads_to rows h.id ≡ true
first_leads rows h hs at = by_test (leads_to rows h.id) at
  where
    by_test : (b : Bool) → cond (not b) (1 + passed rows hs) 0 ≡ 0 → b ≡ true
    by_test true e = refl
    by_test false e = absurd (omega (arith, e))

-- the stores that are passed by stay as they are
pub after_passed : (now : ℕ) (rows : List RouteRow) (p : SpacePacket) (stores : List Held)
    → after_offers now (packet_along rows p) stores ≡ take (passed rows stores) stores
    ++ after_offers now (packet_along rows p) (drop (passed rows stores) stores)
after_passed now rows p [] = refl
after_passed now rows p (h ∷ hs) = by_test (leads_to rows h.id) refl (after_passed now rows p hs)
  where
    by_test : (b : Bool) → leads_to rows h.id ≡ b
        → after_offers now (packet_along rows p) hs ≡ take (passed rows hs) hs
        ++ after_offers now (packet_along rows p) (drop (passed rows hs) hs)
        → after_offers now (packet_along rows p) (h ∷ hs) ≡ take (passed rows (h ∷ hs)) (h ∷ hs)
        ++ after_offers now (packet_along rows p) (drop (passed rows (h ∷ hs)) (h ∷ hs))
    by_test true e rest = rw (e, e) refl
    by_test false e rest =
        let next : 1 + passed rows hs ≡ suc (passed rows hs) = omega arith in
        rw (e, next) (ap (λ (xs : List Held). h ∷ xs) rest)

-- the same after nothing is the same
nothing_plus : (t : Tally) → plus nothing t ≡ t
nothing_plus t =
    let kept : 0 + t.kept ≡ t.kept = omega arith in
    let lost : 0 + t.lost ≡ t.lost = omega arith in
    let refused : 0 + t.refused ≡ t.refused = omega arith in
    rw (kept, lost, refused) refl

-- and nothing becomes of the packet there
pub tally_passed : (now : ℕ) (rows : List RouteRow) (p : SpacePacket) (stores : List Held)
    → tally_over now (packet_along rows p) stores
    ≡ tally_over now (packet_along rows p) (drop (passed rows stores) stores)
tally_passed now rows p [] = refl
tally_passed now rows p (h ∷ hs) = by_test (leads_to rows h.id) refl (tally_passed now rows p hs)
  where
    by_test : (b : Bool) → leads_to rows h.id ≡ b
        → tally_over now (packet_along rows p) hs ≡ tally_over now (packet_along rows p) (drop (passed rows hs) hs)
        → tally_over now (packet_along rows p) (h ∷ hs)
        ≡ tally_over now (packet_along rows p) (drop (passed rows (h ∷ hs)) (h ∷ hs))
    by_test true e rest = rw (e, e) refl
    by_test false e rest =
        let next : 1 + passed rows hs ≡ suc (passed rows hs) = omega arith in
        rw (e, next) (nothing_plus (tally_over now (packet_along rows p) hs) ∙ rest)

-- what comes after the stores that are passed by begins with one that is not
pub none_passed : (rows : List RouteRow) (stores : List Held) → passed rows (drop (passed rows stores) stores) ≡ 0
none_passed rows [] = refl
none_passed rows (h ∷ hs) = by_test (leads_to rows h.id) refl (none_passed rows hs)
  where
    by_test : (b : Bool) → leads_to rows h.id ≡ b → passed rows (drop (passed rows hs) hs) ≡ 0
        → passed rows (drop (passed rows (h ∷ hs)) (h ∷ hs)) ≡ 0
    by_test true e rest = rw (e, e) refl
    by_test false e rest =
        let next : 1 + passed rows hs ≡ suc (passed rows hs) = omega arith in
        rw (e, next) rest

-- where a row leads to the first store, and the others up to the next one stay, the stores are those after the offers
pub after_more : (now : ℕ) (rows : List RouteRow) (p : SpacePacket) (h h' : Held) (hs led stores : List Held)
    → stores ≡ h ∷ hs → passed rows stores ≡ 0 → h' ≡ after_offer now h (Some p)
    → led ≡ after_offers now (packet_along rows p) (drop (passed rows hs) hs)
    → h' ∷ (take (passed rows hs) hs ++ led) ≡ after_offers now (packet_along rows p) stores
after_more now rows p h h' hs led stores is begins offered after =
    let leads : leads_to rows h.id ≡ true = first_leads rows h hs (rw is at begins) in
    rw (is, offered, after, leads, sym (after_passed now rows p hs)) refl

-- and what became of the packet is the sum
pub tally_more : (now : ℕ) (rows : List RouteRow) (p : SpacePacket) (h : Held) (hs stores : List Held)
    (one more : Tally) → stores ≡ h ∷ hs → passed rows stores ≡ 0 → one ≡ tally_in now h (Some p)
    → more ≡ tally_over now (packet_along rows p) (drop (passed rows hs) hs)
    → plus one more ≡ tally_over now (packet_along rows p) stores
tally_more now rows p h hs stores one more is begins told rest =
    let leads : leads_to rows h.id ≡ true = first_leads rows h hs (rw is at begins) in
    rw (is, told, rest, leads, sym (tally_passed now rows p hs)) refl
