-- What becomes of packets, over any events from any state: each that was held or taken is deleted, held or given up. A
-- retrieval gives what is held, the oldest first, each packet once.
use Rattle.std.specs.Prelude.{◌≡◌, ◌+◌, if◌then◌else◌, List, [], ◌∷◌, ◌++◌, length, map, filter, nat_le, All, Contains}
use Rattle.std.specs.Prelude.{IsPermutation, Option, Some, None, is_some, Result, Ok, Err}
use Rattle.mm_desk.specs.Types.{SpacePacket, Stored, Event, Offer, Begin, Next, Delete, Fault, Offered, Kept, KeptOver}
use Rattle.mm_desk.specs.Types.{Lost, Returned}
use Rattle.mm_store.specs.Content.{IsRising}
use Rattle.mm_desk.specs.Machine.{State, offer, next, step}

-- the packets of pairs of a time and a packet
abbrev pub packets_of : List Stored → List SpacePacket
packets_of pairs = map (λ p. p.packet) pairs

-- the packet of an offer that is not refused
abbrev pub accepted : SpacePacket → Result Offered Returned → List SpacePacket
accepted packet (Ok answer) = packet ∷ []
accepted packet (Err back) = []

-- the packet that an answer gives up: the oldest, overwritten, or the new one of a full bounded store
abbrev pub left_out : Result Offered Returned → List SpacePacket
left_out (Ok (Kept time)) = []
left_out (Ok (KeptOver time oldest)) = oldest ∷ []
left_out (Ok (Lost packet)) = packet ∷ []
left_out (Err back) = []

-- the packet that an answer to a retrieval gives
abbrev pub found_in : Result (Option Stored) Fault → List Stored
found_in (Ok (Some p)) = p ∷ []
found_in (Ok None) = []
found_in (Err fault) = []

-- what an event takes from those who offer
abbrev pub taken : State → Event → List SpacePacket
taken s (Offer now packet) = accepted packet (offer s now packet).0
taken s other = []

-- what an event gives up for room
abbrev pub given_up : State → Event → List SpacePacket
given_up s (Offer now packet) = left_out (offer s now packet).0
given_up s other = []

-- what an event deletes: the packets up to the limit, where no retrieval is on
abbrev pub deleted : State → Event → List SpacePacket
deleted s (Delete limit) =
    if is_some s.retrieval then [] else packets_of (filter (λ p. nat_le p.time limit) s.store.content)
deleted s other = []

-- what an event gives of the retrieval
abbrev pub given : State → Event → List Stored
given s Next = found_in (next s).0
given s other = []

-- the state after events
abbrev pub after : State → List Event → State
after s [] = s
after s (e ∷ es) = after (step s e).1 es

-- what all events do, in order, each from the state that those before it left
abbrev pub over : {X : Type 0} → (State → Event → List X) → State → List Event → List X
over each s [] = []
over each s (e ∷ es) = each s e ++ over each (step s e).1 es

-- the packets that a store held and was given, each as often as it came
abbrev pub known : State → List Event → List SpacePacket
known s es = packets_of s.store.content ++ over taken s es

-- no packet is lost uncounted, and none is invented: what was held and what was taken is what is deleted, what is held
-- and what is given up, each packet as often; as many are given up, and as many deleted, as the counters say
pub record IsConserved (s : State) (es : List Event) : Type 0 where
  pub packets : IsPermutation (known s es) (over deleted s es ++ packets_of (after s es).store.content
      ++ over given_up s es)
  pub lost : (after s es).lost ≡ s.lost + length (over given_up s es)
  pub deleted : (after s es).deleted ≡ s.deleted + length (over deleted s es)

-- an event begins no retrieval
abbrev pub BeginsNone : Event → Type 0
BeginsNone (Begin from to) = ⊥
BeginsNone other = Unit {0}

-- packets are conserved over any events from any state
abbrev pub ConservePackets : Type 0
ConservePackets = (s : State) (es : List Event) → IsConserved s es

-- what is given was held at first or taken before
abbrev pub GiveWhatIsKnown : Type 0
GiveWhatIsKnown = (s : State) (es : List Event) → All (λ p. Contains (known s es) p.packet) (over given s es)

-- the packets of one retrieval have rising times, with any other events between
abbrev pub GiveInOrder : Type 0
GiveInOrder = (s : State) (es : List Event) → All BeginsNone es → IsRising (over given s es)
