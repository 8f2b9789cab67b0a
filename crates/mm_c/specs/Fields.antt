-- What is told of the fields of requests and of reports, by the definitions of `mm_service`.
use Rattle.std.specs.Prelude.{◌≡◌, ◌≢◌, ◌⊎◌, if◌then◌else◌}
use Rattle.mm_c.specs.Words.{ℕ, nat_le, List, length, Ok, Err, Fault, NoMemory, length_answer, refused_answer, Answer}
use Rattle.mm_c.specs.Words.{Written, TooSmall, Reason, Whole}
use Rattle.mm_packet.specs.Packet.{SpacePacket}
use Rattle.mm_st15.specs.declared.report.Report.{Report}
use Rattle.mm_st15.specs.Report.{IsReport, SpellsReport}
use Rattle.mm_service.specs.declared.entry_fields.EntryFields.{EntryFields}
use Rattle.mm_service.specs.declared.instruction_fields.InstructionFields.{InstructionFields}
use Rattle.mm_service.specs.declared.received.ReportFields.{ReportFields}
use Rattle.mm_service.specs.declared.requesting.FieldsFault.{FieldsFault}
use Rattle.mm_service.specs.declared.requesting.RequestFields.{RequestFields}
use Rattle.mm_service.specs.EntryFields.{over}
use Rattle.mm_service.specs.FieldsFault.{refusal_of}
use Rattle.mm_service.specs.Reading.{said}
use Rattle.mm_service.specs.Received.{report_alone, no_report, entries_told, Tells}
use Rattle.mm_service.specs.Requesting.{MakesNone}
use Rattle.mm_c.specs.Serving.{of_call}

-- a fault of the fields of a request
abbrev pub of_fields : FieldsFault → Reason
of_fields fault = record { refusal = refusal_of fault; spot = Whole }

-- why these fields make no request
abbrev pub IsWhyUnwritten : RequestFields → List InstructionFields → Reason → Type 0
IsWhyUnwritten f fields reason = (fault : FieldsFault) × MakesNone f fields fault × (reason ≡ of_fields fault)

-- the answer with these entries, for this many of them in the buffer
abbrev pub entries_answer : List EntryFields → ℕ → Answer
entries_answer entries room =
    length_answer (if nat_le (length entries) room then Written else TooSmall) (length entries)

-- the buffer with these entries at its head, or as it was where there is no room for all of them
abbrev pub put_entries : List EntryFields → List EntryFields → List EntryFields
put_entries entries buffer = if nat_le (length entries) (length buffer) then over entries buffer else buffer

-- the report of a packet is told: its fields, and its entries, for which there may be no room
pub record ReadsAs (octets : List ℕ) (told : ReportFields) (old new : List EntryFields) (answer : Answer) : Type 0 where
  pub packet : SpacePacket
  pub report : Report
  pub alone : report_alone octets ≡ Ok packet
  pub is_report : IsReport report
  pub spelled : SpellsReport packet report
  pub tells : Tells packet report told
  pub entries : new ≡ put_entries (entries_told report) old
  pub answered : answer ≡ entries_answer (entries_told report) (length old)

-- no report is told: the octets fail a test, out of memory aside
pub record IsUnread (octets : List ℕ) (told : ReportFields) (old new : List EntryFields) (answer : Answer)
    : Type 0 where
  pub fault : Fault
  pub why : fault ≢ NoMemory → said (report_alone octets) ≡ Err fault
  pub told_is : told ≡ no_report
  pub left : new ≡ old
  pub answered : answer ≡ refused_answer (of_call fault)

-- the report of a packet is told, or the call is refused
abbrev pub ReadsReport : List ℕ → ReportFields → List EntryFields → List EntryFields → Answer → Type 0
ReadsReport octets told old new answer = ReadsAs octets told old new answer ⊎ IsUnread octets told old new answer
