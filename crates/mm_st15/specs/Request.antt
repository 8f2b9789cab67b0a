-- Requests: their data, and the packets that spell them.
use Rattle.std.specs.Prelude.{◌≡◌, ℕ, ◌<◌, ◌≤◌, ◌==◌, ◌||◌, not, List, [], ◌∷◌, length, Option, Some, None, is_some, MatchOption, if◌then◌else◌}
use Rattle.std.specs.List.{flat_map, AllByRecursion}
use Rattle.mm_packet.specs.Packet.{SpacePacket, IsTelecommand}
use Rattle.mm_packet.specs.Spelling.{type_bit}
use Rattle.mm_st15.specs.declared.fault.Fault.{Fault}
use Rattle.mm_st15.specs.declared.fault.Fault.TheVariants.{NotSt15, UnknownSubtype, CountMismatch}
use Rattle.mm_st15.specs.declared.request.Request.{Request}
use Rattle.mm_st15.specs.declared.request.Request.TheVariants as request
use Rattle.mm_st15.specs.declared.request_kind.RequestKind.{RequestKind}
use Rattle.mm_st15.specs.declared.request_kind.RequestKind.TheVariants as kind
use Rattle.mm_st15.specs.declared.service.TheConstants.{SERVICE}
use Rattle.mm_st15.specs.RequestKind.{Subtype, listed, bare, subtype_of, code_of, kind_at, width_of}
use Rattle.mm_st15.specs.Layout.{octets_of, Fits}
use Rattle.mm_st15.specs.Counted.{counted_at}

-- the instructions that a subtype may have: a list in its layout, or nothing
abbrev pub Instructions : Subtype → Type 0
Instructions (listed number Entry layout) = List Entry
Instructions (bare number) = Unit {0}

-- what a function gives for a request, by what it asks and its instructions
abbrev pub of_parts {ℓ} : {A : Type ℓ} → ((kind : RequestKind) → Instructions (subtype_of kind) → A) → Request → A
of_parts f (request.EnableStorage instructions) = f kind.EnableStorage instructions
of_parts f (request.DisableStorage instructions) = f kind.DisableStorage instructions
of_parts f (request.AddReportTypes instructions) = f kind.AddReportTypes instructions
of_parts f (request.DeleteReportTypes instructions) = f kind.DeleteReportTypes instructions
of_parts f (request.ReportControl instructions) = f kind.ReportControl instructions
of_parts f (request.StartRetrieval instructions) = f kind.StartRetrieval instructions
of_parts f (request.DeleteContent instructions) = f kind.DeleteContent instructions
of_parts f (request.SummariseContent instructions) = f kind.SummariseContent instructions
of_parts f (request.AbortRetrieval instructions) = f kind.AbortRetrieval instructions
of_parts f request.ReportStatus = f kind.ReportStatus tt
of_parts f (request.CreateStores instructions) = f kind.CreateStores instructions
of_parts f (request.DeleteStores instructions) = f kind.DeleteStores instructions
of_parts f request.ReportConfiguration = f kind.ReportConfiguration tt
of_parts f (request.ResizeStores instructions) = f kind.ResizeStores instructions
of_parts f (request.ChangeToCircular instructions) = f kind.ChangeToCircular instructions
of_parts f (request.ChangeToBounded instructions) = f kind.ChangeToBounded instructions
of_parts f (request.ChangeChannel instructions) = f kind.ChangeChannel instructions

-- how many instructions there are
abbrev pub count_in : (s : Subtype) → Instructions s → ℕ
count_in (listed number Entry layout) instructions = length instructions
count_in (bare number) none = 0

-- the octets of instructions, one after another
abbrev pub octets_in : (s : Subtype) → Instructions s → List ℕ
octets_in (listed number Entry layout) instructions = flat_map (octets_of layout) instructions
octets_in (bare number) none = []

-- the fields of each instruction fit
abbrev pub FitIn : (s : Subtype) → Instructions s → Type 0
FitIn (listed number Entry layout) instructions = AllByRecursion (Fits layout) instructions
FitIn (bare number) none = Unit {0}

-- what a request asks
abbrev pub kind_of : Request → RequestKind
kind_of request = of_parts (λ kind instructions. kind) request

-- how many instructions a request has
abbrev pub count_of : Request → ℕ
count_of request = of_parts (λ kind instructions. count_in (subtype_of kind) instructions) request

-- the octets of the instructions, one after another
abbrev pub instruction_octets : Request → List ℕ
instruction_octets request = of_parts (λ kind instructions. octets_in (subtype_of kind) instructions) request

-- the fields of each instruction fit
abbrev pub FitsInstructions : Request → Type 0
FitsInstructions request = of_parts (λ kind instructions. FitIn (subtype_of kind) instructions) request

-- the data with these instructions: their number and their octets, or nothing where a request has no data
abbrev pub data_with : RequestKind → ℕ → List ℕ → List ℕ
data_with kind count octets = if is_some (width_of kind) then count ∷ octets else []

-- the data of a request
abbrev pub data_of : Request → List ℕ
data_of request = data_with (kind_of request) (count_of request) (instruction_octets request)

-- a request has 1 to 255 instructions, or no data
abbrev pub HasCount : RequestKind → ℕ → Type 0
HasCount kind count = MatchOption (width_of kind) (Unit {0}) (λ _. (1 ≤ count) × (count < 256))

-- a request that can be spelled
pub record IsRequest (request : Request) : Type 0 where
  pub count : HasCount (kind_of request) (count_of request)
  pub instructions : FitsInstructions request

-- the packet is a telecommand of this service, with the request's subtype and data
pub record SpellsRequest (packet : SpacePacket) (request : Request) : Type 0 where
  pub telecommand : IsTelecommand packet.kind
  pub service : packet.header.service ≡ SERVICE
  pub subtype : packet.header.subtype ≡ code_of (kind_of request)
  pub body : packet.body ≡ data_of request

-- the number of instructions and their octets, where the data are as long as it says
abbrev pub instructions_at : Option ℕ → List ℕ → Option (ℕ × List ℕ)
instructions_at None [] = Some (0, [])
instructions_at None (octet ∷ octets) = None
instructions_at (Some width) octets = counted_at 1 width octets

-- the first test that a packet fails as a request
abbrev pub request_fault : SpacePacket → Option Fault
request_fault packet =
    if not (type_bit packet.kind == 1) || not (packet.header.service == SERVICE) then Some NotSt15
    else counted (kind_at packet.header.subtype)
  where
    counted : Option RequestKind → Option Fault
    counted None = Some UnknownSubtype
    counted (Some kind) = if is_some (instructions_at (width_of kind) packet.body) then None else Some CountMismatch
