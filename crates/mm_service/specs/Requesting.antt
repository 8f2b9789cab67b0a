-- Telecommands out of the fields of their requests.
use Rattle.std.specs.Prelude.{◌≡◌, ◌≢◌, ◌==◌, ◌&&◌, if◌then◌else◌}
use Rattle.mm_base.specs.Reading.{◌>>=◌}
use Rattle.mm_service.specs.Words.{ℕ, Bool, nat_lt, nat_le, List, length, map, Option, Some, None, Result, Ok, Err}
use Rattle.mm_service.specs.Words.{test, SpacePacket, spelling, Telecommand, Request, SERVICE, IsRequest, SpellsRequest}
use Rattle.mm_service.specs.Words.{request_alone, InstructionFields, FieldsFault, Idle, Limit, UnknownSubtype}
use Rattle.mm_service.specs.Words.{CountMismatch}
use Rattle.mm_packet.specs.declared.header.TheConstants.{IDLE_APID, SEQUENCE_COUNTS}
use Rattle.mm_st15.specs.declared.request_kind.RequestKind.{RequestKind}
use Rattle.mm_st15.specs.RequestKind.{code_of, kind_at, width_of}
use Rattle.mm_st15.specs.Request.{kind_of, count_of, data_of, HasCount}
use Rattle.mm_service.specs.declared.requesting.FieldsFault.TheVariants.{NoMemory}
use Rattle.mm_service.specs.declared.requesting.RequestFields.{RequestFields}
use Rattle.mm_service.specs.declared.requesting.TheConstants.{ACKNOWLEDGEMENTS}
use Rattle.mm_service.specs.InstructionFields.{target_of, report_type_of, time_range_of, time_limit_of}
use Rattle.mm_service.specs.InstructionFields.{configuration_of, size_of, channel_of}
use Rattle.mm_st15.specs.declared.request.Request.TheVariants as request
use Rattle.mm_st15.specs.declared.request_kind.RequestKind.TheVariants as kind

-- the request of a kind whose instructions have these fields; one without data has none
abbrev pub request_made : RequestKind → List InstructionFields → Request
request_made kind.EnableStorage fields = request.EnableStorage (map target_of fields)
request_made kind.DisableStorage fields = request.DisableStorage (map target_of fields)
request_made kind.AddReportTypes fields = request.AddReportTypes (map report_type_of fields)
request_made kind.DeleteReportTypes fields = request.DeleteReportTypes (map report_type_of fields)
request_made kind.ReportControl fields = request.ReportControl (map target_of fields)
request_made kind.StartRetrieval fields = request.StartRetrieval (map time_range_of fields)
request_made kind.DeleteContent fields = request.DeleteContent (map time_limit_of fields)
request_made kind.SummariseContent fields = request.SummariseContent (map target_of fields)
request_made kind.AbortRetrieval fields = request.AbortRetrieval (map target_of fields)
request_made kind.ReportStatus fields = request.ReportStatus
request_made kind.CreateStores fields = request.CreateStores (map configuration_of fields)
request_made kind.DeleteStores fields = request.DeleteStores (map target_of fields)
request_made kind.ReportConfiguration fields = request.ReportConfiguration
request_made kind.ResizeStores fields = request.ResizeStores (map size_of fields)
request_made kind.ChangeToCircular fields = request.ChangeToCircular (map target_of fields)
request_made kind.ChangeToBounded fields = request.ChangeToBounded (map target_of fields)
request_made kind.ChangeChannel fields = request.ChangeChannel (map channel_of fields)

-- whether a request may have this many instructions: 1 to 255, or none where it has no data
abbrev pub is_count : Option ℕ → ℕ → Bool
is_count None count = count == 0
is_count (Some width) count = nat_le 1 count && nat_lt count 256

-- the request of a kind whose instructions have these fields, where it may have that many
abbrev pub counted : RequestKind → List InstructionFields → Result Request FieldsFault
counted kind fields =
    if is_count (width_of kind) (length fields) then Ok (request_made kind fields) else Err CountMismatch

-- a subtype of the profile
abbrev pub subtype_tested : Option RequestKind → Result RequestKind FieldsFault
subtype_tested None = Err UnknownSubtype
subtype_tested (Some kind) = Ok kind

-- the request of a subtype whose instructions have these fields, or the first test that fails
abbrev pub request_of_fields : ℕ → List InstructionFields → Result Request FieldsFault
request_of_fields subtype fields = do
  kind ← subtype_tested (kind_at subtype)
  counted kind fields

-- the fields of the headers are in their ranges
abbrev pub header_tested : RequestFields → Result (Unit {0}) FieldsFault
header_tested f = do
  apid ← test (nat_lt f.apid IDLE_APID) Idle
  test (nat_lt f.count SEQUENCE_COUNTS && nat_lt f.acknowledgement ACKNOWLEDGEMENTS) Limit

-- the request that these fields make, or the first test that fails
abbrev pub requested : RequestFields → List InstructionFields → Result Request FieldsFault
requested f fields = do
  header ← header_tested f
  request_of_fields f.subtype fields

-- the telecommand of a request with these fields of its headers
abbrev pub request_packet : RequestFields → Request → SpacePacket
request_packet f request = record {
  header = record {
    apid = f.apid;
    count = f.count;
    low = f.acknowledgement;
    service = SERVICE;
    subtype = code_of (kind_of request);
  };
  kind = Telecommand f.source;
  body = data_of request;
}

-- the packet is the telecommand of the request that these fields make, and spells it
pub record AsksFor (f : RequestFields) (fields : List InstructionFields) (packet : SpacePacket) : Type 0 where
  pub request : Request
  pub made : requested f fields ≡ Ok request
  pub is_request : IsRequest request
  pub packet_is : packet ≡ request_packet f request
  pub spelled : SpellsRequest packet request

-- the octets are those of that telecommand, and its request is read again from them
pub record Requests (f : RequestFields) (fields : List InstructionFields) (octets : List ℕ) : Type 0 where
  pub packet : SpacePacket
  pub asks : AsksFor f fields packet
  pub octets_are : octets ≡ spelling packet
  pub read_again : request_alone octets ≡ Ok packet

-- why these fields make no request: the first test that fails, out of memory aside
abbrev pub MakesNone : RequestFields → List InstructionFields → FieldsFault → Type 0
MakesNone f fields fault = fault ≢ NoMemory → requested f fields ≡ Err fault

-- a request that has as many instructions as it may
abbrev pub IsCounted : Request → Type 0
IsCounted request = HasCount (kind_of request) (count_of request)
