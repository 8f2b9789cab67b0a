-- What a space packet is, by its fields.
use Rattle.std.specs.Prelude.{ℕ, ◌<◌, ◌≤◌, ◌^◌, List, length, Option, Some, None}
use Rattle.mm_packet.specs.declared.header.Header.{Header}
use Rattle.mm_packet.specs.declared.header.PacketType.{PacketType}
use Rattle.mm_packet.specs.declared.header.PacketType.TheVariants.{Telecommand, Telemetry}
use Rattle.mm_packet.specs.declared.header.TheConstants.{IDLE_APID, TELECOMMAND_BODY, TELEMETRY_BODY}

-- a space packet: the fields that both types have, those of its own type, and the data
pub record SpacePacket : Type 0 where
  pub header : Header
  pub kind : PacketType
  pub body : List ℕ

-- the packet type is telecommand
abbrev pub IsTelecommand : PacketType → Type 0
IsTelecommand (Telecommand source) = Unit {0}
IsTelecommand (Telemetry counter destination time) = ⊥

-- the packet type is telemetry
abbrev pub IsTelemetry : PacketType → Type 0
IsTelemetry (Telecommand source) = ⊥
IsTelemetry (Telemetry counter destination time) = Unit {0}

-- the source identifier of a telecommand
abbrev pub source_of : PacketType → Option ℕ
source_of (Telecommand source) = Some source
source_of (Telemetry counter destination time) = None

-- the message type counter of telemetry
abbrev pub counter_of : PacketType → Option ℕ
counter_of (Telecommand source) = None
counter_of (Telemetry counter destination time) = Some counter

-- the destination identifier of telemetry
abbrev pub destination_of : PacketType → Option ℕ
destination_of (Telecommand source) = None
destination_of (Telemetry counter destination time) = Some destination

-- the time of telemetry, in ticks
abbrev pub time_of : PacketType → Option ℕ
time_of (Telecommand source) = None
time_of (Telemetry counter destination time) = Some time

-- the fields of a packet type are numbers of 16 bits, and the time is one of 64
abbrev pub FitsType : PacketType → Type 0
FitsType (Telecommand source) = source < 2 ^ 16
FitsType (Telemetry counter destination time) = (counter < 2 ^ 16) × (destination < 2 ^ 16) × (time < 2 ^ 64)

-- how many octets of data a packet of this type has room for
abbrev pub room_for_body : PacketType → ℕ
room_for_body (Telecommand source) = TELECOMMAND_BODY
room_for_body (Telemetry counter destination time) = TELEMETRY_BODY

-- each field is in its range
pub record IsPacket (packet : SpacePacket) : Type 0 where
  pub apid : packet.header.apid < IDLE_APID
  pub count : packet.header.count < 2 ^ 14
  pub low : packet.header.low < 2 ^ 4
  pub service : packet.header.service < 2 ^ 8
  pub subtype : packet.header.subtype < 2 ^ 8
  pub kind : FitsType packet.kind
  pub body : length packet.body ≤ room_for_body packet.kind
