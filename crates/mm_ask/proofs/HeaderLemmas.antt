-- The headers of a packet of each type.
use Rattle.std.proofs.Common.{◌≡◌, ℕ, ◌++◌, Some}
use Rattle.std.specs.Prelude.{codes}
use Rattle.mm_packet.specs.declared.header.PacketType.{PacketType}
use Rattle.mm_packet.specs.declared.header.PacketType.TheVariants.{Telecommand, Telemetry}
use Rattle.mm_packet.specs.Packet.{source_of, counter_of, destination_of, time_of}
use Rattle.mm_ask.specs.EntryWords.{named}
use Rattle.mm_ask.specs.PacketWords.{type_fields}

-- the words of the fields that only a telecommand has
pub telecommand_words : (kind : PacketType) (n : ℕ) → source_of kind ≡ Some n → type_fields kind ≡ named (codes " source ") n
telecommand_words (Telecommand source) n e = cc
telecommand_words (Telemetry counter destination time) n e = absurd (cc)

-- and those that only telemetry has
pub telemetry_words : (kind : PacketType) (c d t : ℕ) → counter_of kind ≡ Some c → destination_of kind ≡ Some d → time_of kind ≡ Some t
    → type_fields kind ≡ named (codes " counter ") c ++ named (codes " destination ") d ++ named (codes " time ") t
telemetry_words (Telecommand source) c d t e f g = absurd (cc)
telemetry_words (Telemetry counter destination time) c d t e f g = cc
