-- Reading a packet: the first test that fails, or the packet at the front and what follows it.
use Rattle.std.specs.Prelude.{ℕ, ◌+◌, ◌/◌, ◌%◌, ◌^◌, nat_le, ◌==◌, List, length, take, drop, Option, Some, None, Result, Ok, Err, if◌then◌else◌}
use Rattle.std.specs.Option.{ok_or}
use Rattle.mm_base.specs.Reading.{◌>>=◌}
use Rattle.mm_packet.specs.declared.fault.Fault.{Fault}
use Rattle.mm_packet.specs.declared.fault.Fault.TheVariants.{Short, HeaderCut, PusVersion}
use Rattle.mm_packet.specs.declared.header.Header.{Header}
use Rattle.mm_packet.specs.declared.reading.Primary.{Primary}
use Rattle.mm_packet.specs.declared.reading.Secondary.{Secondary}
use Rattle.mm_packet.specs.Packet.{SpacePacket}
use Rattle.mm_packet.specs.Headers.{primary_at, secondary_at, fault_of, is_telecommand, apid_of, count_of}

-- the primary header, which has passed its tests
abbrev pub tested : Primary → Result Primary Fault
tested primary = untested (fault_of primary) where
  untested : Option Fault → Result Primary Fault
  untested None = Ok primary
  untested (Some fault) = Err fault

-- the data field, one octet longer than the data length says, and what follows it
abbrev pub data_field_at : Primary → List ℕ → Option (List ℕ × List ℕ)
data_field_at primary octets =
    if nat_le (length octets) primary.data_length then None
    else Some (take (primary.data_length + 1) octets, drop (primary.data_length + 1) octets)

-- the fields that both packet types have
abbrev pub header_of : Primary → Secondary → Header
header_of primary secondary = record {
  apid = apid_of primary;
  count = count_of primary;
  low = secondary.first % 2 ^ 4;
  service = secondary.service;
  subtype = secondary.subtype;
}

-- the packet with these headers and this data
abbrev pub packet_of : Primary → Secondary → List ℕ → SpacePacket
packet_of primary secondary body = record { header = header_of primary secondary; kind = secondary.kind; body = body }

-- the packet at the front of the octets, and what follows it; or the first test that fails
unfoldable pub packet_at : List ℕ → Result (SpacePacket × List ℕ) Fault
packet_at octets = do
  front ← ok_or (primary_at octets) Short
  primary ← tested front.0
  field ← ok_or (data_field_at primary front.1) Short
  secondary ← ok_or (secondary_at (is_telecommand primary) field.0) HeaderCut
  if secondary.0.first / 2 ^ 4 == 2 then Ok (packet_of primary secondary.0 secondary.1, field.1) else Err PusVersion
