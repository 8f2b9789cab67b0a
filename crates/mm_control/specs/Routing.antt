-- The packets that a storage control sends into a store.
use Rattle.std.specs.Prelude.{ℕ, Bool, false, List}
use Rattle.mm_base.specs.declared.rows.RouteRow.{RouteRow}
use Rattle.mm_packet.specs.declared.header.PacketType.{PacketType}
use Rattle.mm_packet.specs.declared.header.PacketType.TheVariants.{Telecommand, Telemetry}
use Rattle.mm_packet.specs.Packet.{SpacePacket}
use Rattle.mm_control.specs.Routes.{has_row}

-- the row that sends packets of this packet's report type into the store with this identifier
abbrev pub row_for : List ℕ → SpacePacket → RouteRow
row_for id p = record { apid = p.header.apid; service = p.header.service; subtype = p.header.subtype; store = id }

-- whether a packet goes into the store with this identifier: telemetry does if the table has that row, and a
-- telecommand never does
abbrev pub is_routed : List RouteRow → List ℕ → SpacePacket → Bool
is_routed routes id p = by_kind p.kind where
  by_kind : PacketType → Bool
  by_kind (Telecommand source) = false
  by_kind (Telemetry counter destination time) = has_row (row_for id p) routes
