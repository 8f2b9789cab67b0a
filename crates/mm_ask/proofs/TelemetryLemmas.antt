-- A packet is the telemetry of a report where each of its fields is.
use Rattle.std.proofs.Common.{◌≡◌, ℕ, List, Some, refl, sym, ◌∙◌}
use Rattle.mm_packet.specs.declared.header.PacketType.{PacketType}
use Rattle.mm_packet.specs.declared.header.PacketType.TheVariants.{Telecommand, Telemetry}
use Rattle.mm_packet.specs.Packet.{SpacePacket, source_of}
use Rattle.mm_st15.specs.declared.report.Report.{Report}
use Rattle.mm_st15.specs.declared.service.TheConstants.{SERVICE}
use Rattle.mm_st15.specs.ReportKind.{code_of}
use Rattle.mm_st15.specs.Report.{SpellsReport, kind_of, moment_of, data_of}
use Rattle.mm_ask.specs.declared.counters.Numbers.{Numbers}
use Rattle.mm_ask.specs.Telemetry.{telemetry_of, source_in}

-- a packet, field by field
packet_with : ℕ → ℕ → ℕ → ℕ → ℕ → PacketType → List ℕ → SpacePacket
packet_with apid count low service subtype kind body = record {
  header = record { apid = apid; count = count; low = low; service = service; subtype = subtype };
  kind = kind;
  body = body;
}

fields_of : (p : SpacePacket) → p ≡ packet_with p.header.apid p.header.count p.header.low p.header.service p.header.subtype p.kind p.body
unfolding packet_with
fields_of p = refl

telemetry_fields : (asked : SpacePacket) (n : Numbers) (r : Report) → telemetry_of asked n r ≡ packet_with asked.header.apid n.sequence 0 SERVICE (code_of (kind_of r)) (Telemetry n.counter (source_in asked.kind) (moment_of r)) (data_of r)
unfolding packet_with
telemetry_fields asked n r = refl

-- the source identifier, where the packet has one
source_is : (kind : PacketType) (source : ℕ) → source_of kind ≡ Some source → source_in kind ≡ source
source_is (Telecommand s) source e = cc
source_is (Telemetry counter destination time) source e = absurd (cc)

pub telemetry_is : (asked p : SpacePacket) (n : Numbers) (r : Report) (source : ℕ) → SpellsReport p r → p.header.apid ≡ asked.header.apid → p.header.count ≡ n.sequence → p.header.low ≡ 0 → source_of asked.kind ≡ Some source → p.kind ≡ Telemetry n.counter source (moment_of r) → p ≡ telemetry_of asked n r
telemetry_is asked p n r source spelled apid count low from kind =
    let same : source_in asked.kind ≡ source = source_is asked.kind source from in
    let service : p.header.service ≡ SERVICE = spelled.service in
    let subtype : p.header.subtype ≡ code_of (kind_of r) = spelled.subtype in
    let body : p.body ≡ data_of r = spelled.body in
    fields_of p ∙ rw (apid, count, low, service, subtype, kind, body, ← same) (sym (telemetry_fields asked n r))
