-- What is read is spelled so.
use Rattle.std.proofs.Common.{◌≡◌, ℕ, ◌+◌, ◌*◌, ◌/◌, ◌%◌, ◌^◌, ◌<◌, ◌≤◌, List, ◌∷◌, ◌++◌}
use Rattle.std.proofs.Common.{length, None, refl, sym, ap, ◌∙◌, length-append, arith}
use Rattle.std.specs.Prelude.{if◌then◌else◌}
use Rattle.std.specs.Int.{w16, to_be_bytes}
use Rattle.std.proofs.lemmas.Bool.Decides.{nat_tests}
use Rattle.mm_packet.specs.declared.reading.Primary.{Primary}
use Rattle.mm_packet.specs.declared.reading.Secondary.{Secondary}
use Rattle.mm_packet.specs.declared.header.PacketType.{PacketType}
use Rattle.mm_packet.specs.declared.header.TheConstants.{IDLE_APID}
use Rattle.mm_packet.specs.declared.header.PacketType.TheVariants.{Telecommand, Telemetry}
use Rattle.mm_packet.specs.Packet.{room_for_body, IsPacket}
use Rattle.mm_packet.specs.Spelling.{identification, sequence_control, data_length, type_bit, type_fields, spelling}
use Rattle.mm_packet.specs.Headers.{primary_octets, secondary_octets, FitsPrimary, FitsSecondary, fault_of, version_of}
use Rattle.mm_packet.specs.Headers.{flag_of, apid_of, sequence_flags_of, is_telecommand}
use Rattle.mm_packet.specs.Reading.{packet_of}

-- a primary header that passes its tests has the fixed bits of the profile
pub record Passes (primary : Primary) : Type 0 where
  pub version : version_of primary ≡ 0
  pub apid : apid_of primary < IDLE_APID
  pub flag : flag_of primary ≡ 1
  pub sequence_flags : sequence_flags_of primary ≡ 3

-- where no test refuses a primary header, it has the fixed bits
pub passes : (primary : Primary) → fault_of primary ≡ None → Passes primary
passes primary none =
    record {
      version = grind (arith, nat_tests);
      apid = grind (arith, nat_tests);
      flag = grind (arith, nat_tests);
      sequence_flags = grind (arith, nat_tests);
    }

-- the first two octets are the packet's identification
identification_is : (primary : Primary) (kind : PacketType) → primary.identification < 2 ^ 16 → Passes primary
    → type_bit kind ≡ (if is_telecommand primary then 1 else 0)
    → type_bit kind * 2 ^ 12 + 2 ^ 11 + apid_of primary ≡ primary.identification
identification_is primary kind small passed bit = grind (arith, nat_tests)

-- the data has room after its secondary header
room : (kind : PacketType) (body : List ℕ) → length (type_fields kind) + 3 + length body ≤ 2 ^ 16
    → length body ≤ room_for_body kind
room (Telecommand source) body small = omega arith
room (Telemetry counter destination time) body small = omega arith

-- what was read is in range
pub fits : (primary : Primary) (secondary : Secondary) (field body : List ℕ) → fault_of primary ≡ None
    → FitsSecondary secondary
    → field ≡ secondary_octets secondary ++ body → length field ≤ 2 ^ 16 → IsPacket (packet_of primary secondary body)
fits primary secondary field body none small field-is len =
    record {
      apid = (passes primary none).apid;
      count = omega arith;
      low = omega arith;
      service = small.service;
      subtype = small.subtype;
      kind = small.kind;
      body = room secondary.kind body
          (omega (arith, length-append (secondary_octets secondary) body, ap length field-is));
    }

-- the octets of a packet, by the numbers in them
octets_of : (identification control length first service subtype : ℕ) (fields body : List ℕ) → List ℕ
octets_of identification control length first service subtype fields body =
    to_be_bytes w16 identification ++ to_be_bytes w16 control ++ to_be_bytes w16 length
    ++ ((first ∷ service ∷ subtype ∷ fields) ++ body)

-- the numbers of the headers are the packet's
pub is_spelled : (primary : Primary) (secondary : Secondary) (body : List ℕ) → FitsPrimary primary
    → fault_of primary ≡ None → type_bit secondary.kind ≡ (if is_telecommand primary then 1 else 0)
    → secondary.first / 2 ^ 4 ≡ 2
    → length (secondary_octets secondary ++ body) ≡ primary.data_length + 1
    → spelling (packet_of primary secondary body) ≡ primary_octets primary ++ (secondary_octets secondary ++ body)
unfolding octets_of
is_spelled primary secondary body small none bit version len =
    let passed = passes primary none in
    let packet = packet_of primary secondary body in
    let id-is : identification packet ≡ primary.identification =
    identification_is primary secondary.kind small.identification passed bit in
    let control-is : sequence_control packet ≡ primary.sequence_control =
    omega (arith, passed.sequence_flags, small.sequence_control) in
    let length-is : data_length packet ≡ primary.data_length = omega (arith, len) in
    let first-is : 2 * 2 ^ 4 + secondary.first % 2 ^ 4 ≡ secondary.first = omega (arith, version) in
    let numbers : octets_of (identification packet) (sequence_control packet) (data_length packet)
    (2 * 2 ^ 4 + secondary.first % 2 ^ 4) secondary.service secondary.subtype (type_fields secondary.kind) body
    ≡ octets_of primary.identification primary.sequence_control primary.data_length secondary.first secondary.service
    secondary.subtype (type_fields secondary.kind) body
    = rw (id-is, control-is, length-is, first-is) refl in
    numbers

-- the parts of the octets, put together
pub is_found : (octets after field rest : List ℕ) (primary : Primary) (secondary : Secondary) (body : List ℕ)
    → FitsPrimary primary
    → fault_of primary ≡ None → type_bit secondary.kind ≡ (if is_telecommand primary then 1 else 0)
    → secondary.first / 2 ^ 4 ≡ 2
    → octets ≡ primary_octets primary ++ after → after ≡ field ++ rest → length field ≡ primary.data_length + 1
    → field ≡ secondary_octets secondary ++ body
    → octets ≡ spelling (packet_of primary secondary body) ++ rest
is_found octets after field rest primary secondary body small none bit version front-is after-is len field-is =
    let whole : length (secondary_octets secondary ++ body) ≡ primary.data_length + 1 = ap length (sym field-is)
    ∙ len in
    let spelled = is_spelled primary secondary body small none bit version whole in
    let parts : octets ≡ primary_octets primary ++ ((secondary_octets secondary ++ body) ++ rest) = front-is
    ∙ ap (λ (x : List ℕ). primary_octets primary ++ x) (after-is ∙ ap (λ (x : List ℕ). x ++ rest) field-is) in
    parts ∙ ap (λ (x : List ℕ). x ++ rest) (sym spelled)
