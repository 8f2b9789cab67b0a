-- What the calls on a memory tell, by the definitions of `mm_service`.
use Rattle.std.specs.Prelude.{◌≡◌, ◌≢◌, ◌⊎◌, ◌<◌}
use Rattle.mm_c.specs.Words.{ℕ, List, length, Option, Some, None, Result, Ok, Err, SetupFault, Fault, NoMemory, Serving}
use Rattle.mm_c.specs.Words.{opened_of, after_refusal, of_setup, no_memory, length_answer, refused_answer, Answer}
use Rattle.mm_c.specs.Words.{Written, TooSmall, Closed, Open, End, Reason, Whole}
use Rattle.mm_packet.specs.declared.block.TheConstants.{BLOCK}
use Rattle.mm_problem.specs.declared.fault.Fault.TheVariants.{NoMemory as NoSetupMemory}
use Rattle.mm_service.specs.declared.answers.TheConstants.{INSTRUCTIONS}
use Rattle.mm_service.specs.declared.offering.Fate.{Fate}
use Rattle.mm_service.specs.declared.offering.Fate.TheVariants.{Kept, KeptOver, Lost}
use Rattle.mm_memory.specs.declared.tally.Tally.{Tally}
use Rattle.mm_service.specs.declared.giving.Given.{Given}
use Rattle.mm_service.specs.declared.reporting.Reported.{Reported}
use Rattle.mm_service.specs.Applying.{Applies, RefusesRequest}
use Rattle.mm_service.specs.Fault.{refusal_of}
use Rattle.mm_service.specs.Giving.{GivesNext}
use Rattle.mm_service.specs.Offering.{offered}
use Rattle.mm_service.specs.Recording.{recorded}
use Rattle.mm_service.specs.Reporting.{Reports}
use Rattle.mm_told.specs.declared.answer.Status.{Status}
use Rattle.mm_c.specs.declared.memory.FateTold.{FateTold}
use Rattle.mm_c.specs.declared.memory.TallyTold.{TallyTold}
use Rattle.mm_service.specs.declared.reporting.Reported.TheVariants as reported

-- the answer that a call ended so, with no text
abbrev pub ended : Status → Answer
ended status = length_answer status 0

-- why a call is refused
abbrev pub of_call : Fault → Reason
of_call fault = record { refusal = refusal_of fault; spot = Whole }

-- what became of a packet, as codes
abbrev pub fate : ℕ → ℕ → FateTold
fate kind time = record { kind = kind; time = time }

abbrev pub no_fate : FateTold
no_fate = fate 0 0

abbrev pub fate_told : Fate → FateTold
fate_told (Kept time) = fate 1 time
fate_told (KeptOver time) = fate 2 time
fate_told Lost = fate 3 0

-- what became of a packet in several stores
abbrev pub tally_told : Tally → TallyTold
tally_told tally = record { kept = tally.kept; lost = tally.lost; refused = tally.refused }

abbrev pub no_tally : TallyTold
no_tally = record { kept = 0; lost = 0; refused = 0 }

-- a closed handle is opened with the memory of a setup, or the call is refused with the setup's fault; an open one
-- stays as it is
abbrev pub Opens : List ℕ → Option Serving → Option Serving → Answer → Type 0
Opens setup (Some s) new answer = (new ≡ Some s) × (answer ≡ ended Open)
Opens setup None new answer =
    ((s : Serving) × (opened_of setup ≡ Ok s) × (new ≡ Some s) × (answer ≡ ended Written))
    ⊎ ((fault : SetupFault) × (fault ≢ NoSetupMemory → opened_of setup ≡ Err fault)
    × (new ≡ None) × (answer ≡ refused_answer (of_setup fault)))

-- a call on an open handle does what P says to what it holds; on a closed one it says so and does nothing, as Q says
abbrev pub OnOpen : (Serving → Serving → Type 0) → Type 0 → Option Serving → Option Serving → Answer → Type 0
OnOpen P Q (Some s) new answer = (t : Serving) × (new ≡ Some t) × P s t
OnOpen P Q None new answer = (new ≡ None) × Q × (answer ≡ ended Closed)

-- a call is refused for this fault, and nothing has changed
abbrev pub IsRefused : (Fault → Type 0) → Serving → Serving → Answer → Type 0
IsRefused Why s t answer =
    (fault : Fault) × (fault ≢ NoMemory → Why fault) × (t ≡ s) × (answer ≡ refused_answer (of_call fault))

-- a packet is refused for this fault: out of memory it is counted, and nothing else has changed
abbrev pub RefusesPacket : (Fault → Type 0) → Serving → Serving → Answer → Type 0
RefusesPacket Why s t answer = (fault : Fault) × (fault ≢ NoMemory → Why fault) × (t ≡ after_refusal fault s)
    × (answer ≡ refused_answer (of_call fault))

-- a packet is offered: its fate is told, or the call is refused
abbrev pub Offers : (id octets : List ℕ) (now : ℕ) → FateTold → Answer → Serving → Serving → Type 0
Offers id octets now told answer s t =
    ((f : Fate) × (offered id octets now s ≡ Ok (f, t)) × (told ≡ fate_told f) × (answer ≡ ended Written))
    ⊎ (RefusesPacket (λ fault. offered id octets now s ≡ Err fault) s t answer × (told ≡ no_fate))

-- a packet is recorded: what became of it is told, or the call is refused
abbrev pub Records : (octets : List ℕ) (now : ℕ) → TallyTold → Answer → Serving → Serving → Type 0
Records octets now told answer s t =
    ((tally : Tally) × (recorded octets now s ≡ Ok (tally, t)) × (told ≡ tally_told tally) × (answer ≡ ended Written))
    ⊎ (RefusesPacket (λ fault. recorded octets now s ≡ Err fault) s t answer × (told ≡ no_tally))

-- the buffer is too small for a call that needs this much room, and nothing has changed
abbrev pub LacksRoom : ℕ → List ℕ → List ℕ → Serving → Serving → Answer → Type 0
LacksRoom room old new s t answer = (length old < room) × (new ≡ old) × (t ≡ s) × (answer ≡ length_answer TooSmall room)

-- a request is applied, the call is refused, or the buffer is too small
abbrev pub IsApplied : (octets : List ℕ) (now : ℕ) → List ℕ → List ℕ → Answer → Serving → Serving → Type 0
IsApplied octets now old new answer s t =
    ((count : ℕ) × Applies octets now s t count old new × (answer ≡ length_answer Written count))
    ⊎ ((IsRefused (RefusesRequest octets s) s t answer × (new ≡ old)) ⊎ LacksRoom INSTRUCTIONS old new s t answer)

-- how a call for a report is answered
abbrev pub report_answer : Reported → Answer
report_answer (reported.Written n) = length_answer Written n
report_answer (reported.TooSmall n) = length_answer TooSmall n
report_answer reported.End = ended End

-- the report that waits longest is given, or the call is refused, out of memory
abbrev pub IsReported : List ℕ → List ℕ → Answer → Serving → Serving → Type 0
IsReported old new answer s t =
    ((told : Reported) × Reports s.waiting told s t old new × (answer ≡ report_answer told))
    ⊎ ((t ≡ s) × (new ≡ old) × (answer ≡ refused_answer no_memory))

-- how a call for a packet is answered, and with which time
abbrev pub IsGivenAs : Result (Option Given) Fault → ℕ → Answer → Type 0
IsGivenAs (Ok (Some given)) time answer = (time ≡ given.time) × (answer ≡ length_answer Written given.len)
IsGivenAs (Ok None) time answer = (time ≡ 0) × (answer ≡ ended End)
IsGivenAs (Err fault) time answer = (time ≡ 0) × (answer ≡ refused_answer (of_call fault))

-- the next packet of a retrieval is given, or its end is told, or the call is refused, or the buffer is too small
abbrev pub IsGiven : (id : List ℕ) → ℕ → List ℕ → List ℕ → Answer → Serving → Serving → Type 0
IsGiven id time old new answer s t =
    ((told : Result (Option Given) Fault) × GivesNext id told s t old new × IsGivenAs told time answer)
    ⊎ (LacksRoom BLOCK old new s t answer × (time ≡ 0))

-- at most this many reports may wait from now on, and nothing else has changed
abbrev pub Bounds : ℕ → Answer → Serving → Serving → Type 0
Bounds reports answer s t = (t ≡ record s { bound = Some reports }) × (answer ≡ ended Written)
