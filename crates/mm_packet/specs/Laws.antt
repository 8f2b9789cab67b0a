-- Laws over the spelling of packets.
use Rattle.std.specs.Prelude.{◌≡◌, ℕ, List, ◌++◌, Ok}
use Rattle.mm_packet.specs.Packet.{SpacePacket, IsPacket}
use Rattle.mm_packet.specs.Spelling.{spelling}
use Rattle.mm_packet.specs.Reading.{packet_at}

-- where octets begin with the spellings of two packets, the packets are one, and what follows them too
abbrev pub OnePacketOneSpelling : Type 0
OnePacketOneSpelling = (a b : SpacePacket) (x y : List ℕ) → IsPacket a → IsPacket b → spelling a ++ x ≡ spelling b ++ y → (a ≡ b) × (x ≡ y)

-- reading what was written gives the packet, and what follows it
abbrev pub WrittenIsRead : Type 0
WrittenIsRead = (packet : SpacePacket) (rest : List ℕ) → IsPacket packet → packet_at (spelling packet ++ rest) ≡ Ok (packet, rest)
