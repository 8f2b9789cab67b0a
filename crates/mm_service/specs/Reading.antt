-- What octets say: an identifier, a packet with nothing after it, a request.
use Rattle.std.specs.Prelude.{if◌then◌else◌}
use Rattle.mm_base.specs.Reading.{◌>>=◌}
use Rattle.mm_service.specs.Words.{ℕ, nat_le, List, length, Result, Ok, Err, is_id_text, field_of, SpacePacket}
use Rattle.mm_service.specs.Words.{spelling, packet_alone, request_alone, LineFault, Fault, BadId, NoSuchStore, TooLong}
use Rattle.mm_packet.specs.declared.block.TheConstants.{BLOCK}
use Rattle.mm_service.specs.Fault.{of_octets}

-- the identifier that a text is, padded to eight octets
abbrev pub id_tested : List ℕ → Result (List ℕ) Fault
id_tested text = if is_id_text text then Ok (field_of text) else Err BadId

-- why no store has an identifier with this text
abbrev pub missing : List ℕ → Fault
missing text = if is_id_text text then NoSuchStore else BadId

-- what octets say, or their fault as one of a call
abbrev pub said : {A : Type 0} → Result A LineFault → Result A Fault
said (Ok x) = Ok x
said (Err fault) = Err (of_octets fault)

-- a packet that a block has room for
abbrev pub block_tested : SpacePacket → Result SpacePacket Fault
block_tested packet = if nat_le (length (spelling packet)) BLOCK then Ok packet else Err TooLong

-- the packet that the octets are, nothing after it, where a block has room for it
abbrev pub block_of : List ℕ → Result SpacePacket Fault
block_of octets = do
  packet ← said (packet_alone octets)
  block_tested packet

-- the packet that the octets are, nothing after it, where it asks a request
abbrev pub request_of : List ℕ → Result SpacePacket Fault
request_of octets = said (request_alone octets)
