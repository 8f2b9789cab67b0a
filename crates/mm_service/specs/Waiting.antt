-- The packets of reports that wait.
use Rattle.mm_service.specs.Words.{ℕ, length, Telemetry, SpacePacket, Report, SERVICE, code_of, kind_of, moment_of}
use Rattle.mm_st15.specs.declared.report.TheConstants.{MOST_ROWS}
use Rattle.mm_st15.specs.Report.{data_of}
use Rattle.mm_ask.specs.declared.counters.Numbers.{Numbers}
use Rattle.mm_st15.specs.declared.report.Report.TheVariants as report

-- how many entries a report has, and how many it may have
abbrev pub entries_of : Report → ℕ
entries_of (report.Control moment id rows) = length rows
entries_of (report.Summaries moment entries) = length entries
entries_of (report.Statuses moment entries) = length entries
entries_of (report.Configurations moment entries) = length entries

abbrev pub most_of : Report → ℕ
most_of (report.Control moment id rows) = MOST_ROWS
most_of other = 255

-- the telemetry that spells a report
abbrev pub report_packet : ℕ → ℕ → Numbers → Report → SpacePacket
report_packet apid destination numbers report = record {
  header = record {
    apid = apid;
    count = numbers.sequence;
    low = 0;
    service = SERVICE;
    subtype = code_of (kind_of report);
  };
  kind = Telemetry numbers.counter destination (moment_of report);
  body = data_of report;
}
