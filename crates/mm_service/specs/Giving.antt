-- The packets of retrievals, given one by one into a buffer.
use Rattle.std.specs.Prelude.{◌≡◌}
use Rattle.mm_base.specs.Reading.{◌>>=◌}
use Rattle.mm_service.specs.Words.{ℕ, List, length, Option, Some, None, Result, Ok, Err, spelling, Stored, next, Fault}
use Rattle.mm_service.specs.Words.{Refuses, over}
use Rattle.mm_desk.specs.declared.fault.Fault.{Fault as StateFault}
use Rattle.mm_service.specs.declared.giving.Given.{Given}
use Rattle.mm_service.specs.Reading.{id_tested}
use Rattle.mm_service.specs.Serving.{Serving, state_named, with_store}

-- what the store machine gives, or its refusal as one of a call
abbrev pub given_of : Result (Option Stored) StateFault → Result (Option Stored) Fault
given_of (Ok given) = Ok given
given_of (Err fault) = Err (Refuses fault)

-- a packet is told: its time, its length, and its octets at the head of the buffer
pub record TellsPacket (stored : Stored) (told : Given) (old new : List ℕ) : Type 0 where
  pub time : told.time ≡ stored.time
  pub len : told.len ≡ length (spelling stored.packet)
  pub written : new ≡ over (spelling stored.packet) old

-- what the call reports of what is given; without a packet the buffer is unchanged
abbrev pub Tells : Result (Option Stored) Fault → Result (Option Given) Fault → List ℕ → List ℕ → Type 0
Tells (Ok (Some stored)) (Ok (Some told)) old new = TellsPacket stored told old new
Tells (Ok None) (Ok None) old new = new ≡ old
Tells (Err reason) (Err fault) old new = (fault ≡ reason) × (new ≡ old)
Tells given told old new = ⊥

-- the next packet of a retrieval and the service that is left, or the first test that fails
abbrev pub next_of : List ℕ → Serving → Result (Option Stored × Serving) Fault
next_of id s = do
  field ← id_tested id
  state ← state_named field s
  given ← given_of (next state).0
  Ok (given, with_store field s (next state).1)

-- what is given of a pair
abbrev pub first_of : Result (Option Stored × Serving) Fault → Result (Option Stored) Fault
first_of (Ok (given, left)) = Ok given
first_of (Err fault) = Err fault

-- the service after the call; a refusal changes nothing
abbrev pub Leaves : Result (Option Stored × Serving) Fault → Serving → Serving → Type 0
Leaves (Ok (given, left)) s t = t ≡ left
Leaves (Err fault) s t = t ≡ s

-- a call gives the next packet of the retrieval from a store: it is told, and the service is the one that is left
pub record GivesNext (id : List ℕ) (told : Result (Option Given) Fault) (s t : Serving)
    (old new : List ℕ) : Type 0 where
  pub tells : Tells (first_of (next_of id s)) told old new
  pub leaves : Leaves (next_of id s) s t
