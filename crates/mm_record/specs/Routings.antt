-- The routings that a recorder remembers. No public clause cites this module.
use Rattle.std.specs.Prelude.{◌≡◌, ℕ, ◌<◌, List, length, All, IfSome}
use Rattle.mm_record.specs.Words.{RouteRow, SpacePacket, IsTelemetry, StoreLabel, ids_of}
use Rattle.mm_record.specs.declared.routing.ReportType.{ReportType}
use Rattle.mm_record.specs.declared.routing.Routing.{Routing}
use Rattle.mm_record.specs.declared.routing.Routings.{Routings}
use Rattle.mm_record.specs.declared.routing.TheConstants.{REMEMBERED}
use Rattle.mm_record.specs.Offering.{offer_at, offers_of}
use Rattle.mm_record.specs.Recorded.{open_recording}

-- a packet is telemetry of a report type
pub record IsOf (report : ReportType) (p : SpacePacket) : Type 0 where
  pub telemetry : IsTelemetry p.kind
  pub apid : p.header.apid ≡ report.apid
  pub service : p.header.service ≡ report.service
  pub subtype : p.header.subtype ≡ report.subtype

-- packets of a report type go to the store at an index, and to no other
pub record LeadsTo (routes : List RouteRow) (labels : List StoreLabel) (report : ReportType) (index : ℕ) : Type 0 where
  pub within : index < length labels
  pub offers : (step now : ℕ) (p : SpacePacket) (k : ℕ) → IsOf report p → k < length (ids_of labels)
      → offer_at (open_recording step now routes labels) p index k
      ≡ offers_of (open_recording step now routes labels) p k

-- each slot has a report type, and the store that its packets go to, if there is one
pub record AreRoutings (routes : List RouteRow) (labels : List StoreLabel) (routings : Routings) : Type 0 where
  pub count : length routings.slots ≡ REMEMBERED
  pub lead : All (λ (r : Routing). IfSome r.store (LeadsTo routes labels r.report)) routings.slots
