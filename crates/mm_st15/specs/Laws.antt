-- Laws over the spelling of requests and reports.
use Rattle.std.specs.Prelude.{◌≡◌, None}
use Rattle.mm_packet.specs.Packet.{SpacePacket}
use Rattle.mm_st15.specs.declared.request.Request.{Request}
use Rattle.mm_st15.specs.declared.report.Report.{Report}
use Rattle.mm_st15.specs.Request.{IsRequest, SpellsRequest, request_fault}
use Rattle.mm_st15.specs.Report.{IsReport, SpellsReport, report_fault}

-- two requests that one packet spells are one
abbrev pub OnePacketOneRequest : Type 0
OnePacketOneRequest = (packet : SpacePacket) (a b : Request) → IsRequest a → IsRequest b → SpellsRequest packet a → SpellsRequest packet b → a ≡ b

-- two reports that one packet spells are one
abbrev pub OnePacketOneReport : Type 0
OnePacketOneReport = (packet : SpacePacket) (a b : Report) → IsReport a → IsReport b → SpellsReport packet a → SpellsReport packet b → a ≡ b

-- a packet that spells a request passes every test
abbrev pub RequestIsNotRefused : Type 0
RequestIsNotRefused = (packet : SpacePacket) (request : Request) → IsRequest request → SpellsRequest packet request → request_fault packet ≡ None

-- a packet that spells a report passes every test
abbrev pub ReportIsNotRefused : Type 0
ReportIsNotRefused = (packet : SpacePacket) (report : Report) → IsReport report → SpellsReport packet report → report_fault packet ≡ None
