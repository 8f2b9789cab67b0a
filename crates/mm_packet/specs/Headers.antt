-- The two headers at the front of some octets, field by field.
use Rattle.std.specs.Prelude.{ℕ, ◌/◌, ◌%◌, ◌^◌, ◌<◌, Bool, true, false, ◌==◌, not, List, ◌∷◌, ◌++◌, Option, Some, None, if◌then◌else◌}
use Rattle.std.specs.Int.{w16, w64, to_be_bytes}
use Rattle.mm_base.specs.Options.{◌>>=◌}
use Rattle.mm_packet.specs.declared.fault.Fault.{Fault}
use Rattle.mm_packet.specs.declared.fault.Fault.TheVariants.{Version, Idle, NoSecondaryHeader, Segmented}
use Rattle.mm_packet.specs.declared.header.TheConstants.{IDLE_APID}
use Rattle.mm_packet.specs.declared.header.PacketType.{PacketType}
use Rattle.mm_packet.specs.declared.header.PacketType.TheVariants.{Telecommand, Telemetry}
use Rattle.mm_packet.specs.declared.reading.Primary.{Primary}
use Rattle.mm_packet.specs.declared.reading.Secondary.{Secondary}
use Rattle.mm_packet.specs.Packet.{FitsType}
use Rattle.mm_packet.specs.Spelling.{type_fields}
use Rattle.mm_base.specs.NumberFields.{front_octet, number_at}

-- the three numbers of a primary header
unfoldable pub primary_at : List ℕ → Option (Primary × List ℕ)
primary_at octets = do
  identification ← number_at w16 octets
  control ← number_at w16 identification.1
  length ← number_at w16 control.1
  Some (record { identification = identification.0; sequence_control = control.0; data_length = length.0 }, length.1)

-- the octets of a primary header
abbrev pub primary_octets : Primary → List ℕ
primary_octets primary = to_be_bytes w16 primary.identification ++ to_be_bytes w16 primary.sequence_control ++ to_be_bytes w16 primary.data_length

-- they are numbers of 16 bits
pub record FitsPrimary (primary : Primary) : Type 0 where
  pub identification : primary.identification < 2 ^ 16
  pub sequence_control : primary.sequence_control < 2 ^ 16
  pub data_length : primary.data_length < 2 ^ 16

-- the version number
abbrev pub version_of : Primary → ℕ
version_of primary = primary.identification / 2 ^ 13

-- the packet type is telecommand
abbrev pub is_telecommand : Primary → Bool
is_telecommand primary = primary.identification / 2 ^ 12 % 2 == 1

-- the secondary header flag
abbrev pub flag_of : Primary → ℕ
flag_of primary = primary.identification / 2 ^ 11 % 2

-- the APID
abbrev pub apid_of : Primary → ℕ
apid_of primary = primary.identification % 2 ^ 11

-- the sequence flags
abbrev pub sequence_flags_of : Primary → ℕ
sequence_flags_of primary = primary.sequence_control / 2 ^ 14

-- the sequence count
abbrev pub count_of : Primary → ℕ
count_of primary = primary.sequence_control % 2 ^ 14

-- the first test that a primary header fails
abbrev pub fault_of : Primary → Option Fault
fault_of primary =
    if not (version_of primary == 0) then Some Version
    else if apid_of primary == IDLE_APID then Some Idle
    else if flag_of primary == 0 then Some NoSecondaryHeader
    else if not (sequence_flags_of primary == 3) then Some Segmented
    else None

-- the fields that a packet of this type has after the subtype
unfoldable pub type_at : Bool → List ℕ → Option (PacketType × List ℕ)
type_at true octets = do
  source ← number_at w16 octets
  Some (Telecommand source.0, source.1)
type_at false octets = do
  counter ← number_at w16 octets
  destination ← number_at w16 counter.1
  time ← number_at w64 destination.1
  Some (Telemetry counter.0 destination.0 time.0, time.1)

-- a secondary header
unfoldable pub secondary_at : Bool → List ℕ → Option (Secondary × List ℕ)
secondary_at telecommand octets = do
  first ← front_octet octets
  service ← front_octet first.1
  subtype ← front_octet service.1
  kind ← type_at telecommand subtype.1
  Some (record { first = first.0; service = service.0; subtype = subtype.0; kind = kind.0 }, kind.1)

-- the octets of a secondary header
abbrev pub secondary_octets : Secondary → List ℕ
secondary_octets secondary = secondary.first ∷ secondary.service ∷ secondary.subtype ∷ type_fields secondary.kind

-- its fields are in their ranges
pub record FitsSecondary (secondary : Secondary) : Type 0 where
  pub first : secondary.first < 2 ^ 8
  pub service : secondary.service < 2 ^ 8
  pub subtype : secondary.subtype < 2 ^ 8
  pub kind : FitsType secondary.kind
