-- What a line of hexadecimal digits asks.
use Rattle.std.specs.Prelude.{ℕ, ◌%◌, ◌==◌, ◌&&◌, Bool, List, [], ◌∷◌, length, Option, Some, None, Result, Ok, Err}
use Rattle.std.specs.List.{list_all}
use Rattle.hex.specs.declared.error.FromHexError.{FromHexError}
use Rattle.hex.specs.Hex.{decode_of, is_hex_digit}
use Rattle.mm_base.specs.Reading.{◌>>=◌}
use Rattle.mm_packet.specs.declared.fault.Fault.{Fault as PacketFault}
use Rattle.mm_packet.specs.Packet.{SpacePacket}
use Rattle.mm_packet.specs.Reading.{packet_at}
use Rattle.mm_st15.specs.declared.fault.Fault.{Fault as RequestFault}
use Rattle.mm_st15.specs.Request.{request_fault}
use Rattle.mm_ask.specs.declared.fault.LineFault.{LineFault}
use Rattle.mm_ask.specs.declared.fault.LineFault.TheVariants.{HexLine}
use Rattle.mm_ask.specs.Fault.{of_packet, of_request}

-- whether a line is hexadecimal digits alone, an even number of them
abbrev pub has_digits : List ℕ → Bool
has_digits line = (length line % 2 == 0) && list_all is_hex_digit line

-- what the digits spell; every mistake in them is the same refusal
abbrev pub digits_tested : Result (List ℕ) FromHexError → Result (List ℕ) LineFault
digits_tested (Ok octets) = Ok octets
digits_tested (Err e) = Err HexLine

-- the octets of a line
abbrev pub octets_in : List ℕ → Result (List ℕ) LineFault
octets_in line = digits_tested (decode_of line)

-- a packet with nothing after it
abbrev pub alone : Result (SpacePacket × List ℕ) PacketFault → Result SpacePacket LineFault
alone (Err fault) = Err (of_packet fault)
alone (Ok (packet, [])) = Ok packet
alone (Ok (packet, octet ∷ octets)) = Err HexLine

-- the packet that the octets are
abbrev pub packet_alone : List ℕ → Result SpacePacket LineFault
packet_alone octets = alone (packet_at octets)

-- the packet that hexadecimal digits spell, with nothing after it, or the first test that fails: the
-- digits, the packet, octets after it
unfoldable pub packet_of : List ℕ → Result SpacePacket LineFault
packet_of digits = do
  octets ← octets_in digits
  packet_alone octets

-- a packet that passes the tests of a request
abbrev pub request_tested : SpacePacket → Option RequestFault → Result SpacePacket LineFault
request_tested packet None = Ok packet
request_tested packet (Some fault) = Err (of_request fault)

-- the packet that the octets are, nothing after it, where it asks a request
abbrev pub request_alone : List ℕ → Result SpacePacket LineFault
request_alone octets = do
  packet ← packet_alone octets
  request_tested packet (request_fault packet)

-- the packet with which a line asks a request, or the first test that fails: the digits, the
-- packet, octets after it, the request
unfoldable pub request_of : List ℕ → Result SpacePacket LineFault
request_of line = do
  octets ← octets_in line
  request_alone octets
