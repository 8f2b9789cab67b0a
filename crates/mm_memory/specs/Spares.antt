-- Whether stores need memory for a packet that is offered to them: what holds of each packet at each moment.
use Rattle.std.specs.Prelude.{◌≡◌, ◌+◌, ◌<◌, ◌≤◌, max}
use Rattle.mm_memory.specs.Words.{ℕ, List, Ok, Err, RouteRow, SpacePacket, State, StateFault, Held, offer, KeptOver}
use Rattle.mm_memory.specs.Words.{Tally}
use Rattle.mm_memory.specs.Holdings.{Holdings}
use Rattle.mm_memory.specs.Recording.{tally_in, tally_after}
use Rattle.mm_memory.specs.Routing.{packet_along}
use Rattle.mm_memory.specs.Tallies.{tally_of}

-- what becomes of a packet in a store of this state
abbrev pub offered_to : State → ℕ → SpacePacket → Tally
offered_to s now p = tally_of (offer s now p).0

-- each packet is refused for this reason, and nothing changes
abbrev pub RefusesEach : State → StateFault → Type 0
RefusesEach s fault = (now : ℕ) (p : SpacePacket) → offer s now p ≡ (Err (record { fault = fault; packet = p }), s)

-- no packet is refused
abbrev pub TakesEach : State → Type 0
TakesEach s = (now : ℕ) (p : SpacePacket) → (offered_to s now p).refused ≡ 0

-- each packet is kept, and this one given up for it
abbrev pub GivesUp : State → SpacePacket → Type 0
GivesUp s oldest = (now : ℕ) (p : SpacePacket) → (offer s now p).0 ≡ Ok (KeptOver (max now (s.store.last + 1)) oldest)

-- for each packet that is kept one is given up
abbrev pub GivesOneUp : State → Type 0
GivesOneUp s = (now : ℕ) (p : SpacePacket) → (offered_to s now p).kept ≤ (offered_to s now p).lost

-- each packet is kept
abbrev pub KeepsEach : State → Type 0
KeepsEach s = (now : ℕ) (p : SpacePacket) → (offered_to s now p).kept ≡ 1

-- what becomes of a packet in a store, where it follows these rows
abbrev pub fate_along : List RouteRow → Held → ℕ → SpacePacket → Tally
fate_along rows h now p = tally_in now h (packet_along rows p h)

-- a packet is lost for each that follows the rows
abbrev pub LosesOne : List RouteRow → Held → Type 0
LosesOne rows h = (now : ℕ) (p : SpacePacket) → 0 < (fate_along rows h now p).lost

-- for each packet that is kept one is lost
abbrev pub LosesAsManyAsItKeeps : List RouteRow → Held → Type 0
LosesAsManyAsItKeeps rows h = (now : ℕ) (p : SpacePacket)
    → (fate_along rows h now p).kept ≤ (fate_along rows h now p).lost

-- each packet that follows the rows is kept
abbrev pub KeepsIt : List RouteRow → Held → Type 0
KeepsIt rows h = (now : ℕ) (p : SpacePacket) → 0 < (fate_along rows h now p).kept

-- wherever a packet that is recorded is kept, one is lost
abbrev pub IsKeptForAnother : SpacePacket → Holdings → Type 0
IsKeptForAnother p m = (now : ℕ) → 0 < (tally_after now p m).kept → 0 < (tally_after now p m).lost

-- a packet that is recorded is kept, whatever the moment
abbrev pub IsKept : SpacePacket → Holdings → Type 0
IsKept p m = (now : ℕ) → 0 < (tally_after now p m).kept
