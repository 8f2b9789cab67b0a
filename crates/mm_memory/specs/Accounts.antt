-- What becomes of the packets of a memory, store by store, over any calls: what was recorded is held, deleted by a
-- request, or given up and counted as lost; what a retrieval gives was recorded, and comes in order.
use Rattle.std.specs.Prelude.{◌≡◌, ◌+◌, ◌&&◌, if◌then◌else◌, ◌∷◌, ◌++◌}
use Rattle.mm_memory.specs.Words.{ℕ, Bool, false, not, is_some, List, [], length, map, sum, bytes_eq, All, Contains}
use Rattle.mm_memory.specs.Words.{IsPermutation, Option, Some, None, Result, Ok, Err, SpacePacket, Stored, IsRising}
use Rattle.mm_memory.specs.Words.{Offered, Kept, KeptOver, Returned, packets_of, taken, given_up, deleted, given, over}
use Rattle.mm_memory.specs.Words.{BeginsNone, State, offer, step, rest_fault, Answer, Action, Delete, Changes, Enable}
use Rattle.mm_memory.specs.Words.{Disable, Begin, Abort, DeleteContent}
use Rattle.mm_desk.specs.declared.event.Event.{Event}
use Rattle.mm_memory.specs.Acting.{Outcome}
use Rattle.mm_memory.specs.Applying.{Applies, AppliesEach}
use Rattle.mm_memory.specs.Holdings.{Holdings, state_of}
use Rattle.mm_memory.specs.Instruction.{Parsed}
use Rattle.mm_memory.specs.Lending.{with_state}
use Rattle.mm_memory.specs.Recording.{is_routed, after_record}
use Rattle.mm_desk.specs.declared.event.Event.TheVariants as event

-- a call on a memory: a packet is recorded at a moment; the store with an identifier is asked an event of the store
-- machine; an instruction of a request is applied
pub data Call : Type 0 where
  records : ℕ → SpacePacket → Call
  asks : List ℕ → Event → Call
  applies : Parsed → Call

-- a call, and the memory that it left; a call that is refused whole changes nothing, and is none of these
pub record Turn : Type 0 where
  pub call : Call
  pub left : Holdings

-- a call leaves what the contract of its method says
abbrev pub MayLeave : Call → Holdings → Holdings → Type 0
MayLeave (records now packet) m n = n ≡ after_record now packet m
MayLeave (asks id event) m n = (s : State) × (state_of id m ≡ Some s) × (n ≡ with_state id m (step s event).1)
MayLeave (applies i) m n = (outcome : Outcome) × Applies i m (outcome, n)

-- each call leaves what its contract says, from what the one before it left
abbrev pub AreTurns : Holdings → List Turn → Type 0
AreTurns m [] = Unit {0}
AreTurns m (t ∷ ts) = MayLeave t.call m t.left × AreTurns t.left ts

-- the memory after turns
abbrev pub after_turns : Holdings → List Turn → Holdings
after_turns m [] = m
after_turns m (t ∷ ts) = after_turns t.left ts

-- what an action asks of its store
abbrev pub events_of : Action → List Event
events_of (Changes Enable) = event.Enable ∷ []
events_of (Changes Disable) = event.Disable ∷ []
events_of (Changes (Begin from to)) = event.Begin from to ∷ []
events_of (Changes Abort) = event.Abort ∷ []
events_of (Changes (DeleteContent limit)) = event.Delete limit ∷ []
events_of other = []

-- what a call asks of the store with an identifier
abbrev pub events_in : List ℕ → Holdings → Call → List Event
events_in id m (records now packet) = if is_routed m.routes id packet then event.Offer now packet ∷ [] else []
events_in id m (asks other event) = if bytes_eq other id then event ∷ [] else []
events_in id m (applies (Ok i)) = if bytes_eq i.id id then events_of i.action else []
events_in id m (applies (Err reason)) = []

-- an action deletes a store in this state, with all that it holds
abbrev pub removes : Action → State → Bool
removes Delete s = not (is_some (rest_fault s))
removes other s = false

-- a call deletes the store with an identifier
abbrev pub removes_in : List ℕ → Call → State → Bool
removes_in id (applies (Ok i)) s = bytes_eq i.id id && removes i.action s
removes_in id other s = false

-- the packet that an answer to an offer keeps, with its storage time
abbrev pub kept_by : SpacePacket → Result Offered Returned → List Stored
kept_by packet (Ok (Kept time)) = record { time = time; packet = packet } ∷ []
kept_by packet (Ok (KeptOver time oldest)) = record { time = time; packet = packet } ∷ []
kept_by packet other = []

-- what an event keeps
abbrev pub kept : State → Event → List Stored
kept s (event.Offer now packet) = kept_by packet (offer s now packet).0
kept s other = []

-- the packets that a call records in a store, with the times of those kept; those that it deletes; those that it gives
-- up for room; and those that it gives of a retrieval
abbrev pub recorded_by : List ℕ → Holdings → Call → State → List SpacePacket
recorded_by id m c s = over taken s (events_in id m c)

abbrev pub kept_in : List ℕ → Holdings → Call → State → List Stored
kept_in id m c s = over kept s (events_in id m c)

abbrev pub deleted_by : List ℕ → Holdings → Call → State → List SpacePacket
deleted_by id m c s = if removes_in id c s then packets_of s.store.content else over deleted s (events_in id m c)

abbrev pub lost_by : List ℕ → Holdings → Call → State → List SpacePacket
lost_by id m c s = over given_up s (events_in id m c)

abbrev pub given_by : List ℕ → Holdings → Call → State → List Stored
given_by id m c s = over given s (events_in id m c)

-- the counter of losses of a store that a call deletes
abbrev pub counter_gone : List ℕ → Holdings → Call → State → List ℕ
counter_gone id m c s = if removes_in id c s then s.lost ∷ [] else []

-- what a function gives for a store's state, and nothing if there is no store
abbrev pub in_store : {X : Type 0} → (State → List X) → Option State → List X
in_store each (Some s) = each s
in_store each None = []

-- what all calls do with the store with an identifier, in order, each from the memory that the one before it left
abbrev pub in_turns : {X : Type 0} → (List ℕ → Holdings → Call → State → List X) → List ℕ → Holdings → List Turn
    → List X
in_turns each id m [] = []
in_turns each id m (t ∷ ts) = in_store (each id m t.call) (state_of id m) ++ in_turns each id t.left ts

-- what the store with an identifier holds, where there is one
abbrev pub held_in : List ℕ → Holdings → List Stored
held_in id m = in_store (λ s. s.store.content) (state_of id m)

-- its counter of losses
abbrev pub losses_at : Option State → ℕ
losses_at (Some s) = s.lost
losses_at None = 0

abbrev pub losses_in : List ℕ → Holdings → ℕ
losses_in id m = losses_at (state_of id m)

-- a call begins no retrieval from the store with an identifier
abbrev pub BeginsNoneIn : List ℕ → Call → Type 0
BeginsNoneIn id (asks other event) = other ≡ id → BeginsNone event
BeginsNoneIn id (applies (Ok i)) = i.id ≡ id → All BeginsNone (events_of i.action)
BeginsNoneIn id other = Unit {0}

-- the packets of one store: what it held and what was recorded in it is what requests deleted, what it holds, and what
-- was given up, each packet as often; as many were given up as its counter says, with the counters of those of its name
-- that were deleted; what a retrieval gives was held or kept with that time; and what one retrieval gives has rising
-- times
pub record IsAccounted (id : List ℕ) (m : Holdings) (turns : List Turn) : Type 0 where
  pub packets : IsPermutation (packets_of (held_in id m) ++ in_turns recorded_by id m turns)
      (in_turns deleted_by id m turns ++ packets_of (held_in id (after_turns m turns)) ++ in_turns lost_by id m turns)
  pub counted : losses_in id (after_turns m turns) + sum (in_turns counter_gone id m turns)
      ≡ losses_in id m + length (in_turns lost_by id m turns)
  pub given : All (Contains (held_in id m ++ in_turns kept_in id m turns)) (in_turns given_by id m turns)
  pub rising : All (λ t. BeginsNoneIn id t.call) turns → IsRising (in_turns given_by id m turns)

-- over any calls on any memory the packets of each store are accounted for
abbrev pub AccountForPackets : Type 0
AccountForPackets = (m : Holdings) (turns : List Turn) → AreTurns m turns → (id : List ℕ) → IsAccounted id m turns

-- the calls of turns
abbrev pub calls_of : List Turn → List Call
calls_of turns = map (λ t. t.call) turns

-- a request that is applied is a call for each of its instructions, in order
abbrev pub RequestsAreCalls : Type 0
RequestsAreCalls = (is : List Parsed) (m n : Holdings) (answers : List Answer) → AppliesEach is m answers n
    → (turns : List Turn) × (calls_of turns ≡ map applies is) × AreTurns m turns × (n ≡ after_turns m turns)
