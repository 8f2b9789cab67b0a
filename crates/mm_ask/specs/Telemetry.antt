-- The packets of reports.
use Rattle.std.specs.Prelude.{ℕ}
use Rattle.mm_packet.specs.declared.header.PacketType.{PacketType}
use Rattle.mm_packet.specs.declared.header.PacketType.TheVariants.{Telecommand, Telemetry}
use Rattle.mm_packet.specs.Packet.{SpacePacket}
use Rattle.mm_st15.specs.declared.report.Report.{Report}
use Rattle.mm_st15.specs.declared.service.TheConstants.{SERVICE}
use Rattle.mm_st15.specs.ReportKind.{code_of}
use Rattle.mm_st15.specs.Report.{kind_of, moment_of, data_of}
use Rattle.mm_ask.specs.declared.counters.Numbers.{Numbers}

-- the source identifier of a telecommand
abbrev pub source_in : PacketType → ℕ
source_in (Telecommand source) = source
source_in (Telemetry counter destination time) = 0

-- the telemetry that spells a report, on the request of this packet
abbrev pub telemetry_of : SpacePacket → Numbers → Report → SpacePacket
telemetry_of asked numbers report = record {
  header = record {
    apid = asked.header.apid;
    count = numbers.sequence;
    low = 0;
    service = SERVICE;
    subtype = code_of (kind_of report);
  };
  kind = Telemetry numbers.counter (source_in asked.kind) (moment_of report);
  body = data_of report;
}
