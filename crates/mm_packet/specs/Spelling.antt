-- The one spelling of each packet, as octets.
use Rattle.std.specs.Prelude.{ℕ, ◌+◌, ◌*◌, ◌-◌, ◌^◌, List, ◌∷◌, ◌++◌, length}
use Rattle.std.specs.Int.{w16, w64, to_be_bytes}
use Rattle.mm_packet.specs.declared.header.PacketType.{PacketType}
use Rattle.mm_packet.specs.declared.header.PacketType.TheVariants.{Telecommand, Telemetry}
use Rattle.mm_packet.specs.Packet.{SpacePacket}

-- the bit of the packet type
abbrev pub type_bit : PacketType → ℕ
type_bit (Telecommand source) = 1
type_bit (Telemetry counter destination time) = 0

-- version number 000, the packet type, secondary header flag 1, and the APID
abbrev pub identification : SpacePacket → ℕ
identification packet = type_bit packet.kind * 2 ^ 12 + 2 ^ 11 + packet.header.apid

-- sequence flags 11, and the sequence count
abbrev pub sequence_control : SpacePacket → ℕ
sequence_control packet = 3 * 2 ^ 14 + packet.header.count

-- the fields of the secondary header that a packet of this type has after the subtype
abbrev pub type_fields : PacketType → List ℕ
type_fields (Telecommand source) = to_be_bytes w16 source
type_fields (Telemetry counter destination time) = to_be_bytes w16 counter ++ to_be_bytes w16 destination ++ to_be_bytes w64 time

-- PUS version number 2 and the low four bits, the service type, the subtype, and the fields of the packet type
abbrev pub secondary_header : SpacePacket → List ℕ
secondary_header packet = (2 * 2 ^ 4 + packet.header.low) ∷ packet.header.service ∷ packet.header.subtype ∷ type_fields packet.kind

-- the secondary header, and the data
abbrev pub data_field : SpacePacket → List ℕ
data_field packet = secondary_header packet ++ packet.body

-- one less than the octets of the data field
abbrev pub data_length : SpacePacket → ℕ
data_length packet = length (data_field packet) - 1

-- the primary header, and the data field
abbrev pub spelling : SpacePacket → List ℕ
spelling packet = to_be_bytes w16 (identification packet) ++ to_be_bytes w16 (sequence_control packet) ++ to_be_bytes w16 (data_length packet) ++ data_field packet
