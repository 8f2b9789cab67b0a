-- A request that is applied.
use Rattle.std.specs.Prelude.{◌≡◌, ◌≢◌, ◌⊎◌}
use Rattle.mm_service.specs.Words.{ℕ, List, map, length, Ok, Err, SpacePacket, Request, IsRequest, SpellsRequest}
use Rattle.mm_service.specs.Words.{Answer, instructions_of, Fault, NoMemory, TooManyReports, over}
use Rattle.mm_memory.specs.Applying.{AppliesEach}
use Rattle.mm_memory.specs.Reports.{reports_on}
use Rattle.mm_service.specs.Answering.{code_of_answer}
use Rattle.mm_service.specs.Bounding.{MayWait, KeepsBound}
use Rattle.mm_service.specs.Queue.{queue_of, with_reports}
use Rattle.mm_service.specs.Reading.{request_of}
use Rattle.mm_service.specs.Serving.{Serving}

-- the request of the packet that the octets are is applied at a moment: each instruction is answered, in order, and the
-- codes of the answers are at the head of the buffer; the reports on the request might wait, wait after those that
-- waited, and keep the bound
pub record Applies (octets : List ℕ) (now : ℕ) (s t : Serving) (count : ℕ) (old new : List ℕ) : Type 0 where
  pub asked : SpacePacket
  pub asks : request_of octets ≡ Ok asked
  pub request : Request
  pub is_request : IsRequest request
  pub spelled : SpellsRequest asked request
  pub admitted : MayWait request s
  pub answers : List Answer
  pub each : AppliesEach (instructions_of request) s.memory answers t.memory
  pub count_is : count ≡ length answers
  pub told : new ≡ over (map code_of_answer answers) old
  pub waits : queue_of t.counts t.waiting
      ≡ with_reports asked (reports_on request now s.memory) (queue_of s.counts s.waiting)
  pub bounded : KeepsBound s t
  pub bound : t.bound ≡ s.bound
  pub refused : t.refused ≡ s.refused

-- the octets ask a request whose reports may not wait
pub record PassesBound (octets : List ℕ) (s : Serving) : Type 0 where
  pub asked : SpacePacket
  pub asks : request_of octets ≡ Ok asked
  pub request : Request
  pub is_request : IsRequest request
  pub spelled : SpellsRequest asked request
  pub beyond : MayWait request s → ⊥

-- why a request is refused whole, out of memory aside: the first test that the octets fail; or they fail none, and its
-- reports may not wait
abbrev pub RefusesRequest : List ℕ → Serving → Fault → Type 0
RefusesRequest octets s fault = fault ≢ NoMemory
    → (request_of octets ≡ Err fault) ⊎ ((fault ≡ TooManyReports) × PassesBound octets s)
