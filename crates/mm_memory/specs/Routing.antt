-- The rows of the storage control that a packet follows. No public clause cites this module.
use Rattle.std.specs.Prelude.{if◌then◌else◌}
use Rattle.mm_memory.specs.Words.{ℕ, Bool, List, [], filter, Option, Some, None, RouteRow, SpacePacket, is_for, is_to}
use Rattle.mm_memory.specs.Words.{Held}
use Rattle.std.specs.List.{list_any, position_or_len}
use Rattle.mm_packet.specs.declared.header.PacketType.{PacketType}
use Rattle.mm_packet.specs.declared.header.PacketType.TheVariants.{Telecommand, Telemetry}

-- the rows of a packet's report type; none for a telecommand
abbrev pub rows_for : List RouteRow → SpacePacket → List RouteRow
rows_for routes p = by_kind p.kind where
  by_kind : PacketType → List RouteRow
  by_kind (Telecommand source) = []
  by_kind (Telemetry counter destination time) = filter (is_for p.header.apid p.header.service p.header.subtype) routes

-- whether one of the rows leads to the store with an identifier
abbrev pub leads_to : List RouteRow → List ℕ → Bool
leads_to rows id = list_any (is_to id) rows

-- the packet, for a store to which one of the rows leads
abbrev pub packet_along : List RouteRow → SpacePacket → Held → Option SpacePacket
packet_along rows p h = if leads_to rows h.id then Some p else None

-- how many stores stand before the first to which one of the rows leads: all, where there is none
abbrev pub passed : List RouteRow → List Held → ℕ
passed rows stores = position_or_len (λ h. leads_to rows h.id) stores
