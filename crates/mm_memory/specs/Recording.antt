-- A packet that is recorded: each store that its report type is routed to is offered it.
use Rattle.std.specs.Prelude.{if◌then◌else◌, ◌∷◌}
use Rattle.mm_memory.specs.Words.{ℕ, List, [], map, Option, Some, None, RouteRow, SpacePacket, Held, offer, Tally}
use Rattle.mm_memory.specs.Holdings.{Holdings}
use Rattle.mm_memory.specs.Tallies.{nothing, tally_of, plus}
pub use Rattle.mm_control.specs.Routing.{row_for, is_routed}

-- the packet, for a store that it is routed to
abbrev pub packet_for : List RouteRow → SpacePacket → Held → Option SpacePacket
packet_for routes p h = if is_routed routes h.id p then Some p else None

-- a store after an offer of the packet for it, where there is one
abbrev pub after_offer : ℕ → Held → Option SpacePacket → Held
after_offer now h (Some p) = record h { state = (offer h.state now p).1 }
after_offer now h None = h

-- what becomes of that packet
abbrev pub tally_in : ℕ → Held → Option SpacePacket → Tally
tally_in now h (Some p) = tally_of (offer h.state now p).0
tally_in now h None = nothing

-- stores after the offers of the packets for them
abbrev pub after_offers : ℕ → (Held → Option SpacePacket) → List Held → List Held
after_offers now packet stores = map (λ h. after_offer now h (packet h)) stores

-- what becomes of those packets
abbrev pub tally_over : ℕ → (Held → Option SpacePacket) → List Held → Tally
tally_over now packet [] = nothing
tally_over now packet (h ∷ hs) = plus (tally_in now h (packet h)) (tally_over now packet hs)

-- the memory after a packet was recorded at a moment
abbrev pub after_record : ℕ → SpacePacket → Holdings → Holdings
after_record now p memory = record memory { stores = after_offers now (packet_for memory.routes p) memory.stores }

-- what became of a packet that was recorded
abbrev pub tally_after : ℕ → SpacePacket → Holdings → Tally
tally_after now p memory = tally_over now (packet_for memory.routes p) memory.stores
