-- Reports: their data, and the packets that spell them.
use Rattle.std.specs.Prelude.{◌≡◌, ℕ, ◌*◌, ◌<◌, ◌≤◌, ◌^◌, Bool, false, ◌==◌, ◌||◌, nat_lt, not, List, ◌∷◌, ◌++◌, length}
use Rattle.std.specs.Prelude.{drop, Option, Some, None, is_some, if◌then◌else◌}
use Rattle.std.specs.List.{flat_map, AllByRecursion}
use Rattle.std.specs.Int.{w16, to_be_bytes}
use Rattle.mm_base.specs.NumberFields.{number_at}
use Rattle.mm_packet.specs.Packet.{SpacePacket, time_of}
use Rattle.mm_packet.specs.Spelling.{type_bit}
use Rattle.mm_st15.specs.declared.fault.Fault.{Fault}
use Rattle.mm_st15.specs.declared.fault.Fault.TheVariants.{NotSt15, UnknownSubtype, CountMismatch}
use Rattle.mm_st15.specs.declared.report.Report.{Report}
use Rattle.mm_st15.specs.declared.report.Report.TheVariants as report
use Rattle.mm_st15.specs.declared.report.TheConstants.{MOST_ROWS}
use Rattle.mm_st15.specs.declared.report_kind.ReportKind.{ReportKind}
use Rattle.mm_st15.specs.declared.report_kind.ReportKind.TheVariants as kind
use Rattle.mm_st15.specs.declared.service.TheConstants.{SERVICE}
use Rattle.mm_st15.specs.ReportKind.{code_of, kind_at}
use Rattle.mm_st15.specs.Counted.{counted_at}
use Rattle.mm_st15.specs.Layout.{octets_of, Fits, row_layout, summary_layout, status_layout, configuration_layout}

-- what a report tells
abbrev pub kind_of : Report → ReportKind
kind_of (report.Control moment id rows) = kind.Control
kind_of (report.Summaries moment entries) = kind.Summaries
kind_of (report.Statuses moment entries) = kind.Statuses
kind_of (report.Configurations moment entries) = kind.Configurations

-- the moment of a report, in ticks
abbrev pub moment_of : Report → ℕ
moment_of (report.Control moment id rows) = moment
moment_of (report.Summaries moment entries) = moment
moment_of (report.Statuses moment entries) = moment
moment_of (report.Configurations moment entries) = moment

-- the data of a report: the identifier, the number of rows in two octets and the rows; or the number of entries and the
-- entries
abbrev pub data_of : Report → List ℕ
data_of (report.Control moment id rows) = id ++ to_be_bytes w16 (length rows) ++ flat_map (octets_of row_layout) rows
data_of (report.Summaries moment entries) = length entries ∷ flat_map (octets_of summary_layout) entries
data_of (report.Statuses moment entries) = length entries ∷ flat_map (octets_of status_layout) entries
data_of (report.Configurations moment entries) = length entries ∷ flat_map (octets_of configuration_layout) entries

-- a report has at most 255 entries, or as many rows as a packet has room for
abbrev pub HasCount : Report → Type 0
HasCount (report.Control moment id rows) = length rows ≤ MOST_ROWS
HasCount (report.Summaries moment entries) = length entries < 256
HasCount (report.Statuses moment entries) = length entries < 256
HasCount (report.Configurations moment entries) = length entries < 256

-- the fields of each entry fit
abbrev pub FitsEntries : Report → Type 0
FitsEntries (report.Control moment id rows) = (length id ≡ 8) × AllByRecursion (Fits row_layout) rows
FitsEntries (report.Summaries moment entries) = AllByRecursion (Fits summary_layout) entries
FitsEntries (report.Statuses moment entries) = AllByRecursion (Fits status_layout) entries
FitsEntries (report.Configurations moment entries) = AllByRecursion (Fits configuration_layout) entries

-- a report that can be spelled
pub record IsReport (report : Report) : Type 0 where
  pub moment : moment_of report < 2 ^ 64
  pub count : HasCount report
  pub entries : FitsEntries report

-- the packet is telemetry of this service, with the report's moment, subtype and data
pub record SpellsReport (packet : SpacePacket) (report : Report) : Type 0 where
  pub time : time_of packet.kind ≡ Some (moment_of report)
  pub service : packet.header.service ≡ SERVICE
  pub subtype : packet.header.subtype ≡ code_of (kind_of report)
  pub body : packet.body ≡ data_of report

-- the octets after the number of rows are that many rows
abbrev pub are_rows : Option (ℕ × List ℕ) → Bool
are_rows None = false
are_rows (Some found) = length found.1 == found.0 * 4

-- the data are as long as their count says
abbrev pub is_counted : ReportKind → List ℕ → Bool
is_counted kind.Control octets = if nat_lt (length octets) 8 then false else are_rows (number_at w16 (drop 8 octets))
is_counted kind.Summaries octets = is_some (counted_at 0 28 octets)
is_counted kind.Statuses octets = is_some (counted_at 0 10 octets)
is_counted kind.Configurations octets = is_some (counted_at 0 14 octets)

-- the first test that a packet fails as a report
abbrev pub report_fault : SpacePacket → Option Fault
report_fault packet =
    if (type_bit packet.kind == 1) || not (packet.header.service == SERVICE) then Some NotSt15
    else counted (kind_at packet.header.subtype)
  where
    counted : Option ReportKind → Option Fault
    counted None = Some UnknownSubtype
    counted (Some kind) = if is_counted kind packet.body then None else Some CountMismatch
