-- Where a service stands.
use Rattle.std.specs.Prelude.{◌+◌, ◌-◌, ◌^◌}
use Rattle.mm_base.specs.Reading.{◌>>=◌}
use Rattle.mm_service.specs.Words.{ℕ, min, List, [], Option, Some, None, Result, Ok, Err, SpacePacket, State, Holdings}
use Rattle.mm_service.specs.Words.{memory_of, state_of, Counts, no_counts, Fault, NoMemory, NoSuchStore}
use Rattle.mm_problem.specs.Document.{setup_of}
use Rattle.mm_problem.specs.declared.fault.Fault.{Fault as SetupFault}
use Rattle.mm_memory.specs.Lending.{with_state}

-- the memory, how many reports there were, the packets of those that wait, the oldest first, how many may wait, where
-- that is bounded, and how many packets were refused out of memory
pub record Serving : Type 0 where
  pub memory : Holdings
  pub counts : Counts
  pub waiting : List SpacePacket
  pub bound : Option ℕ
  pub refused : ℕ

-- a service with this memory that begins: no report was made, as many may wait as memory holds, and no packet was
-- refused
abbrev pub opened : Holdings → Serving
opened memory = record { memory = memory; counts = no_counts; waiting = []; bound = None; refused = 0 }

-- the service, which counts one more packet that was refused out of memory, up to the greatest number of 64 bits
abbrev pub with_refusal : Serving → Serving
with_refusal s = record s { refused = min (s.refused + 1) (2 ^ 64 - 1) }

-- what an offer that is refused leaves: a refusal out of memory is counted, and another changes nothing
abbrev pub after_refusal : Fault → Serving → Serving
after_refusal NoMemory s = with_refusal s
after_refusal other s = s

-- the service of a setup's memory, or the setup's fault
abbrev pub opened_of : List ℕ → Result Serving SetupFault
opened_of setup = do
  rows ← setup_of setup
  Ok (opened (memory_of rows))

-- what an offer leaves: a refusal out of memory is counted, and without a refusal the service is this one
abbrev pub after_outcome : Option Fault → Serving → Serving
after_outcome None s = s
after_outcome (Some fault) s = after_refusal fault s

-- the state of the store with this identifier
abbrev pub state_named : List ℕ → Serving → Result State Fault
state_named id s = found (state_of id s.memory) where
  found : Option State → Result State Fault
  found (Some state) = Ok state
  found None = Err NoSuchStore

-- the service, with this state of the store with this identifier
abbrev pub with_store : List ℕ → Serving → State → Serving
with_store id s state = record s { memory = with_state id s.memory state }
