-- The instructions of a request, one by one, and the tests of their fields.
use Rattle.std.specs.Prelude.{◌==◌, ◌||◌, if◌then◌else◌}
use Rattle.mm_memory.specs.Words.{ℕ, nat_lt, List, [], map, Result, Ok, Err, Circular, Bounded, MAX_APID, MAX_BLOCKS}
use Rattle.mm_memory.specs.Words.{MAX_CHANNEL, is_id, Target, Configuration, Request, Fault, Action, Create, Delete}
use Rattle.mm_memory.specs.Words.{Route, Report, Changes, Enable, Disable, Begin, Abort, DeleteContent, Resize, SetKind}
use Rattle.mm_memory.specs.Words.{SetChannel, RouteChange}
use Rattle.mm_base.specs.declared.kind.Kind.{Kind}
use Rattle.mm_base.specs.Reading.{◌>>=◌}
use Rattle.mm_st15.specs.declared.instruction.ReportType.{ReportType}
use Rattle.mm_st15.specs.declared.instruction.TimeRange.{TimeRange}
use Rattle.mm_st15.specs.declared.instruction.TimeLimit.{TimeLimit}
use Rattle.mm_st15.specs.declared.instruction.Size.{Size}
use Rattle.mm_st15.specs.declared.instruction.Channel.{Channel}
use Rattle.mm_memory.specs.declared.fault.Fault.TheVariants.{BadId, BadEnum, BadSize}
use Rattle.mm_memory.specs.declared.instruction.Instruction.{Instruction}
use Rattle.mm_st15.specs.declared.request.Request.TheVariants as request
use Rattle.mm_memory.specs.declared.instruction.RouteChange.TheVariants as route

-- the identifier that octets are
abbrev pub id_tested : List ℕ → Result (List ℕ) Fault
id_tested octets = if is_id octets then Ok octets else Err BadId

-- a virtual channel or an APID is at most the greatest that is allowed
abbrev pub code_tested : ℕ → ℕ → Result ℕ Fault
code_tested code greatest = if nat_lt greatest code then Err BadEnum else Ok code

-- the kind with a code
abbrev pub kind_tested : ℕ → Result Kind Fault
kind_tested code = if code == 0 then Ok Circular else if code == 1 then Ok Bounded else Err BadEnum

-- a size is in its range
abbrev pub size_tested : ℕ → Result ℕ Fault
size_tested size = if (size == 0) || nat_lt MAX_BLOCKS size then Err BadSize else Ok size

-- what asks for a change of a store's report types: the APID is tested
abbrev pub type_asked : RouteChange → ReportType → Result Action Fault
type_asked change t = do
  apid ← code_tested t.apid MAX_APID
  Ok (Route change (record { apid = apid; service = t.service; subtype = t.subtype }))

-- a retrieval, and a deletion of content
abbrev pub range_asked : TimeRange → Result Action Fault
range_asked r = Ok (Changes (Begin r.from r.to))

abbrev pub limit_asked : TimeLimit → Result Action Fault
limit_asked l = Ok (Changes (DeleteContent l.limit))

-- a store to be created: the type, the channel and then the size are tested
abbrev pub store_asked : Configuration → Result Action Fault
store_asked s = do
  kind ← kind_tested s.kind
  channel ← code_tested s.channel MAX_CHANNEL
  size ← size_tested s.size
  Ok (Create (record { size = size; kind = kind; channel = channel }))

-- another size, and another virtual channel
abbrev pub size_asked : Size → Result Action Fault
size_asked s = do
  size ← size_tested s.size
  Ok (Changes (Resize size))

abbrev pub channel_asked : Channel → Result Action Fault
channel_asked c = do
  channel ← code_tested c.channel MAX_CHANNEL
  Ok (Changes (SetChannel channel))

-- an instruction, or the first test that it fails: its identifier is tested first
abbrev pub Parsed : Type 0
Parsed = Result Instruction Fault

abbrev pub parsed : List ℕ → Result Action Fault → Parsed
parsed octets asked = do
  id ← id_tested octets
  action ← asked
  Ok (record { id = id; action = action })

-- the same action for each target
abbrev pub for_targets : Action → List Target → List Parsed
for_targets action targets = map (λ t. parsed t.id (Ok action)) targets

-- the instructions of a request, in order; a request that reports on each store has none
abbrev pub instructions_of : Request → List Parsed
instructions_of (request.EnableStorage targets) = for_targets (Changes Enable) targets
instructions_of (request.DisableStorage targets) = for_targets (Changes Disable) targets
instructions_of (request.AddReportTypes types) = map (λ t. parsed t.id (type_asked route.Add t)) types
instructions_of (request.DeleteReportTypes types) = map (λ t. parsed t.id (type_asked route.Delete t)) types
instructions_of (request.ReportControl targets) = for_targets Report targets
instructions_of (request.StartRetrieval ranges) = map (λ r. parsed r.id (range_asked r)) ranges
instructions_of (request.DeleteContent limits) = map (λ l. parsed l.id (limit_asked l)) limits
instructions_of (request.SummariseContent targets) = for_targets Report targets
instructions_of (request.AbortRetrieval targets) = for_targets (Changes Abort) targets
instructions_of request.ReportStatus = []
instructions_of (request.CreateStores stores) = map (λ s. parsed s.id (store_asked s)) stores
instructions_of (request.DeleteStores targets) = for_targets Delete targets
instructions_of request.ReportConfiguration = []
instructions_of (request.ResizeStores sizes) = map (λ s. parsed s.id (size_asked s)) sizes
instructions_of (request.ChangeToCircular targets) = for_targets (Changes (SetKind Circular)) targets
instructions_of (request.ChangeToBounded targets) = for_targets (Changes (SetKind Bounded)) targets
instructions_of (request.ChangeChannel channels) = map (λ c. parsed c.id (channel_asked c)) channels
