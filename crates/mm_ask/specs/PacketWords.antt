-- Packets, requests and reports as lines of words and numbers.
use Rattle.std.specs.Prelude.{ℕ, ◌+◌, List, [], ◌∷◌, ◌++◌, codes, decimal, flat_map}
use Rattle.mm_base.specs.Characters.{line_feed, space}
use Rattle.mm_packet.specs.declared.header.PacketType.{PacketType}
use Rattle.mm_packet.specs.declared.header.PacketType.TheVariants.{Telecommand, Telemetry}
use Rattle.mm_packet.specs.Packet.{SpacePacket}
use Rattle.mm_packet.specs.Spelling.{data_length}
use Rattle.mm_st15.specs.declared.request.Request.{Request}
use Rattle.mm_st15.specs.declared.request.Request.TheVariants as request
use Rattle.mm_st15.specs.declared.report.Report.{Report}
use Rattle.mm_st15.specs.declared.report.Report.TheVariants as report
use Rattle.mm_ask.specs.EntryWords.{named, id_words, target_words, report_type_words, time_range_words, time_limit_words, configuration_words, size_words, channel_words, row_words, summary_words, status_words}
use Rattle.mm_ask.specs.Text.{place_text}

-- ---- headers

abbrev pub type_word : PacketType → List ℕ
type_word (Telecommand source) = codes " telecommand"
type_word (Telemetry counter destination time) = codes " telemetry"

-- what the low four bits of the secondary header's first octet are
abbrev pub low_word : PacketType → List ℕ
low_word (Telecommand source) = codes " acknowledgement "
low_word (Telemetry counter destination time) = codes " reference "

-- the fields that only this type has
abbrev pub type_fields : PacketType → List ℕ
type_fields (Telecommand source) = named (codes " source ") source
type_fields (Telemetry counter destination time) = named (codes " counter ") counter ++ named (codes " destination ") destination ++ named (codes " time ") time

-- the primary header
unfoldable pub primary_words : SpacePacket → List ℕ
primary_words packet =
    type_word packet.kind
    ++ named (codes " apid ") packet.header.apid
    ++ named (codes " count ") packet.header.count
    ++ named (codes " length ") (data_length packet)

-- the secondary header
unfoldable pub secondary_words : SpacePacket → List ℕ
secondary_words packet =
    named (low_word packet.kind) packet.header.low
    ++ named (codes " service ") packet.header.service
    ++ named (codes " subtype ") packet.header.subtype
    ++ type_fields packet.kind

-- the line on the headers of a packet
abbrev pub header_line : ℕ → SpacePacket → List ℕ
header_line number packet = decimal number ++ primary_words packet ++ secondary_words packet ++ line_feed ∷ []

-- ---- requests and reports

-- the line that says what a request asks, or what a report tells
abbrev pub title_line : List ℕ → List ℕ
title_line title = codes "  " ++ title ++ line_feed ∷ []

-- the line on an instruction, with its place in the request
abbrev pub instruction_line : ℕ → ℕ → List ℕ → List ℕ
instruction_line number place words = codes "    " ++ place_text number place ++ space ∷ words ++ line_feed ∷ []

-- the lines on instructions from this place on
abbrev pub instruction_lines : {A : Type 0} → (A → List ℕ) → ℕ → ℕ → List A → List ℕ
instruction_lines words number place [] = []
instruction_lines words number place (entry ∷ entries) = instruction_line number place (words entry) ++ instruction_lines words number (place + 1) entries

-- the line on an entry of a report
abbrev pub entry_line : List ℕ → List ℕ
entry_line words = codes "    " ++ words ++ line_feed ∷ []

-- the lines on entries
abbrev pub entry_lines : {A : Type 0} → (A → List ℕ) → List A → List ℕ
entry_lines words entries = flat_map (λ entry. entry_line (words entry)) entries

-- what a report tells, and the entries
abbrev pub titled_entries : {A : Type 0} → List ℕ → (A → List ℕ) → List A → List ℕ
titled_entries title words entries = title_line title ++ entry_lines words entries

-- what a request asks, and the instructions
abbrev pub titled_instructions : {A : Type 0} → List ℕ → (A → List ℕ) → ℕ → List A → List ℕ
titled_instructions title words number entries = title_line title ++ instruction_lines words number 1 entries

-- the lines on a request
abbrev pub request_lines : ℕ → Request → List ℕ
request_lines n (request.EnableStorage entries) = titled_instructions (codes "enable storage") target_words n entries
request_lines n (request.DisableStorage entries) = titled_instructions (codes "disable storage") target_words n entries
request_lines n (request.AddReportTypes entries) = titled_instructions (codes "add report types") report_type_words n entries
request_lines n (request.DeleteReportTypes entries) = titled_instructions (codes "delete report types") report_type_words n entries
request_lines n (request.ReportControl entries) = titled_instructions (codes "report the storage control") target_words n entries
request_lines n (request.StartRetrieval entries) = titled_instructions (codes "start retrieval") time_range_words n entries
request_lines n (request.DeleteContent entries) = titled_instructions (codes "delete content") time_limit_words n entries
request_lines n (request.SummariseContent entries) = titled_instructions (codes "summarise content") target_words n entries
request_lines n (request.AbortRetrieval entries) = titled_instructions (codes "abort retrieval") target_words n entries
request_lines n request.ReportStatus = title_line (codes "report the status of each store")
request_lines n (request.CreateStores entries) = titled_instructions (codes "create stores") configuration_words n entries
request_lines n (request.DeleteStores entries) = titled_instructions (codes "delete stores") target_words n entries
request_lines n request.ReportConfiguration = title_line (codes "report the configuration of each store")
request_lines n (request.ResizeStores entries) = titled_instructions (codes "resize stores") size_words n entries
request_lines n (request.ChangeToCircular entries) = titled_instructions (codes "change to circular") target_words n entries
request_lines n (request.ChangeToBounded entries) = titled_instructions (codes "change to bounded") target_words n entries
request_lines n (request.ChangeChannel entries) = titled_instructions (codes "change the channel") channel_words n entries

-- the line on the store whose storage control is told
abbrev pub control_line : List ℕ → List ℕ
control_line id = codes "  storage control of " ++ id_words id ++ line_feed ∷ []

-- the lines on a report
abbrev pub report_lines : Report → List ℕ
report_lines (report.Control moment id rows) = control_line id ++ entry_lines row_words rows
report_lines (report.Summaries moment entries) = titled_entries (codes "content") summary_words entries
report_lines (report.Statuses moment entries) = titled_entries (codes "status") status_words entries
report_lines (report.Configurations moment entries) = titled_entries (codes "configuration") configuration_words entries
