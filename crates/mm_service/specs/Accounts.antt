-- What becomes of packets in the calls of a service, octet for octet.
use Rattle.std.specs.Prelude.{◌≡◌, ◌<◌, if◌then◌else◌, ◌∷◌, ◌++◌}
use Rattle.mm_service.specs.Words.{ℕ, List, [], take, map, flat_map, bytes_eq, All, Contains, Option, Some, Ok}
use Rattle.mm_service.specs.Words.{field_of, SpacePacket, spelling, Request, SpellsRequest, Stored, IsState, Tally}
use Rattle.mm_service.specs.Words.{state_of, instructions_of, Fate, Reported}
use Rattle.mm_desk.specs.declared.event.Event.TheVariants.{Offer, Next}
use Rattle.mm_desk.specs.Retrievals.{IsBegun}
use Rattle.mm_memory.specs.Accounts.{Call as MemoryCall, records, asks, applies, Turn as MemoryTurn}
use Rattle.mm_memory.specs.Accounts.{AreTurns as AreMemoryTurns, after_turns, calls_of, held_in, in_turns, given_by}
use Rattle.mm_memory.specs.Accounts.{IsAccounted}
use Rattle.mm_memory.specs.Retrievals.{AtEachTurn, HasState, IsOnIn, GivesRangeIn}
use Rattle.mm_service.specs.declared.giving.Given.{Given}
use Rattle.mm_service.specs.Applying.{Applies}
use Rattle.mm_service.specs.Giving.{GivesNext}
use Rattle.mm_service.specs.Offering.{offered}
use Rattle.mm_service.specs.Recording.{recorded}
use Rattle.mm_service.specs.Reporting.{Reports}
use Rattle.mm_service.specs.Serving.{Serving, with_refusal}

-- a call on a service: octets are offered to the store with a name at a moment; they are recorded at a moment; the
-- request that they are is applied at a moment; the next packet of a retrieval from the store with a name is told and
-- written into a buffer; a report is given; the reports that wait are bounded; a packet that is offered or recorded is
-- refused out of memory
pub data Call : Type 0 where
  offer_call : List ℕ → List ℕ → ℕ → Call
  record_call : List ℕ → ℕ → Call
  apply_call : List ℕ → ℕ → Call
  next_call : List ℕ → Option Given → List ℕ → Call
  report_call : Call
  bound_call : Option ℕ → Call
  refused_call : Call

-- a call, and the service that it left; a call that is refused otherwise changes nothing, and is none of these
pub record Turn : Type 0 where
  pub call : Call
  pub left : Serving

-- octets are numbers below 256
abbrev pub AreOctets : List ℕ → Type 0
AreOctets octets = All (λ octet. octet < 256) octets

-- a call leaves what the contract of its method says
abbrev pub MayLeave : Call → Serving → Serving → Type 0
MayLeave (offer_call id octets now) s t = AreOctets octets × (fate : Fate) × (offered id octets now s ≡ Ok (fate, t))
MayLeave (record_call octets now) s t = AreOctets octets × (tally : Tally) × (recorded octets now s ≡ Ok (tally, t))
MayLeave (apply_call octets now) s t = AreOctets octets × (count : ℕ) × (old : List ℕ) × (new : List ℕ)
    × Applies octets now s t count old new
MayLeave (next_call id told new) s t = (old : List ℕ) × GivesNext id (Ok told) s t old new
MayLeave report_call s t = (told : Reported) × (old : List ℕ) × (new : List ℕ) × Reports s.waiting told s t old new
MayLeave (bound_call bound) s t = t ≡ record s { bound = bound }
MayLeave refused_call s t = t ≡ with_refusal s

-- each call leaves what its contract says, from what the one before it left
abbrev pub AreTurns : Serving → List Turn → Type 0
AreTurns s [] = Unit {0}
AreTurns s (t ∷ ts) = MayLeave t.call s t.left × AreTurns t.left ts

-- the service after turns
abbrev pub after_calls : Serving → List Turn → Serving
after_calls s [] = s
after_calls s (t ∷ ts) = after_calls t.left ts

-- the calls on the memory that a call of the service is; the packets are spelled by the octets
abbrev pub AreCallsOf : Call → List MemoryCall → Type 0
AreCallsOf (offer_call id octets now) calls =
    (packet : SpacePacket) × (octets ≡ spelling packet) × (calls ≡ asks (field_of id) (Offer now packet) ∷ [])
AreCallsOf (record_call octets now) calls =
    (packet : SpacePacket) × (octets ≡ spelling packet) × (calls ≡ records now packet ∷ [])
AreCallsOf (apply_call octets now) calls =
    (packet : SpacePacket) × (octets ≡ spelling packet) × (request : Request) × SpellsRequest packet request
    × (calls ≡ map applies (instructions_of request))
AreCallsOf (next_call id told new) calls = calls ≡ asks (field_of id) Next ∷ []
AreCallsOf report_call calls = calls ≡ []
AreCallsOf (bound_call bound) calls = calls ≡ []
AreCallsOf refused_call calls = calls ≡ []

-- turns of the memory, part by part those of the calls of the service
abbrev pub AreOfCalls : List Turn → List MemoryTurn → Type 0
AreOfCalls [] turns = turns ≡ []
AreOfCalls (t ∷ ts) turns = (first : List MemoryTurn) × (rest : List MemoryTurn) × (turns ≡ first ++ rest)
    × AreCallsOf t.call (calls_of first) × AreOfCalls ts rest

-- the octets that a call brings to the store with an identifier
abbrev pub brought : List ℕ → Call → List (List ℕ)
brought id (offer_call other octets now) = if bytes_eq (field_of other) id then octets ∷ [] else []
brought id (record_call octets now) = octets ∷ []
brought id other = []

-- the octets of the packet that a call gives of a retrieval from it
abbrev pub gave : List ℕ → Call → List (List ℕ)
gave id (next_call other (Some told) buffer) = if bytes_eq (field_of other) id then take told.len buffer ∷ [] else []
gave id other = []

-- what all calls bring or give, in order
abbrev pub in_calls : (Call → List (List ℕ)) → List Turn → List (List ℕ)
in_calls each calls = flat_map (λ t. each t.call) calls

-- the octets of packets
abbrev pub octets_of : List Stored → List (List ℕ)
octets_of packets = map (λ p. spelling p.packet) packets

-- calls on a service are calls on its memory, over which the packets of each store are accounted for; what is given,
-- octet for octet, is what retrievals from the store give; and what one retrieval gives is its range
pub record AreAccounted (s : Serving) (calls : List Turn) : Type 0 where
  pub turns : List MemoryTurn
  pub are : AreOfCalls calls turns
  pub made : AreMemoryTurns s.memory turns
  pub left : (after_calls s calls).memory ≡ after_turns s.memory turns
  pub accounted : (id : List ℕ) → IsAccounted id s.memory turns
  pub given : (id : List ℕ) → in_calls (gave id) calls ≡ octets_of (in_turns given_by id s.memory turns)
  pub retrieved : (from to : ℕ) (id : List ℕ) → HasState (λ u. IsState u × IsBegun from to u) (state_of id s.memory)
      → AtEachTurn (IsOnIn id) s.memory turns → GivesRangeIn from to id s.memory turns

-- over any calls on any service the packets are accounted for
abbrev pub AccountForCalls : Type 0
AccountForCalls = (s : Serving) (calls : List Turn) → AreTurns s calls → AreAccounted s calls

-- the octets of the packets that the store holds
abbrev pub octets_held : List ℕ → Serving → List (List ℕ)
octets_held id s = octets_of (held_in id s.memory)

-- what is given was held or brought, octet for octet
abbrev pub GiveWhatWasBrought : Type 0
GiveWhatWasBrought = (s : Serving) (calls : List Turn) → AreTurns s calls → (id : List ℕ)
    → All (Contains (octets_held id s ++ in_calls (brought id) calls)) (in_calls (gave id) calls)
