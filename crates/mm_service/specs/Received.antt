-- What is told of a report that was received.
use Rattle.std.specs.Prelude.{◌≡◌}
use Rattle.mm_base.specs.Reading.{◌>>=◌}
use Rattle.mm_service.specs.Words.{ℕ, List, map, Option, Some, None, Result, Ok, Err, SpacePacket, Report, code_of}
use Rattle.mm_service.specs.Words.{kind_of, moment_of, LineFault, of_request, packet_alone, EntryFields}
use Rattle.mm_packet.specs.Packet.{counter_of, destination_of}
use Rattle.mm_st15.specs.declared.fault.Fault.{Fault as ReportFault}
use Rattle.mm_st15.specs.Report.{report_fault}
use Rattle.mm_service.specs.declared.received.ReportFields.{ReportFields}
use Rattle.mm_service.specs.EntryFields.{no_id, row_told, summary_told, status_told, configuration_told}
use Rattle.mm_st15.specs.declared.report.Report.TheVariants as report

-- a packet that passes the tests of a report
abbrev pub report_tested : SpacePacket → Option ReportFault → Result SpacePacket LineFault
report_tested packet None = Ok packet
report_tested packet (Some fault) = Err (of_request fault)

-- the packet that the octets are, nothing after it, where it spells a report, or the first test that fails
abbrev pub report_alone : List ℕ → Result SpacePacket LineFault
report_alone octets = do
  packet ← packet_alone octets
  report_tested packet (report_fault packet)

-- what is told where there is no report
abbrev pub no_report : ReportFields
no_report =
    record { moment = 0; id = no_id; apid = 0; count = 0; counter = 0; destination = 0; reference = 0; subtype = 0 }

-- the identifier that a report has once: that of the store whose storage control is told
abbrev pub id_told : Report → List ℕ
id_told (report.Control moment id rows) = id
id_told other = no_id

-- the fields of a report that are no entries are told, with those of the headers of its packet
pub record Tells (packet : SpacePacket) (report : Report) (told : ReportFields) : Type 0 where
  pub moment : told.moment ≡ moment_of report
  pub id : told.id ≡ id_told report
  pub apid : told.apid ≡ packet.header.apid
  pub count : told.count ≡ packet.header.count
  pub counter : counter_of packet.kind ≡ Some told.counter
  pub destination : destination_of packet.kind ≡ Some told.destination
  pub reference : told.reference ≡ packet.header.low
  pub subtype : told.subtype ≡ code_of (kind_of report)

-- the fields of its entries, in order
abbrev pub entries_told : Report → List EntryFields
entries_told (report.Control moment id rows) = map row_told rows
entries_told (report.Summaries moment entries) = map summary_told entries
entries_told (report.Statuses moment entries) = map status_told entries
entries_told (report.Configurations moment entries) = map configuration_told entries
