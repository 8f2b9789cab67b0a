-- A packet that was written is read again, whatever follows.
use Rattle.std.proofs.Common.{◌≡◌, ◌≢◌, ◌⊎◌, inl, inr, ℕ, ◌+◌, ◌*◌, ◌/◌, ◌%◌, ◌^◌, ◌<◌, ◌≤◌, false, leb, List, ◌++◌}
use Rattle.std.proofs.Common.{length, Some, None, Result, Ok, Err, refl, sym, ap, ◌∙◌, length-append, arith}
use Rattle.std.specs.Prelude.{◌==◌, MatchResult}
use Rattle.std.specs.Int.{w16, w64, to_be_bytes}
use Rattle.std.proofs.lemmas.Bool.Decides.{nat_tests}
use Rattle.std.proofs.lemmas.List.{take_at, drop_at}
use Rattle.mm_packet.specs.declared.fault.Fault.{Fault}
use Rattle.mm_packet.specs.declared.fault.Fault.TheVariants.{NoMemory, Short, Version, NoSecondaryHeader, PusVersion}
use Rattle.mm_packet.specs.declared.fault.Fault.TheVariants.{Segmented, Idle, HeaderCut}
use Rattle.mm_packet.specs.declared.header.PacketType.{PacketType}
use Rattle.mm_packet.specs.declared.header.PacketType.TheVariants.{Telecommand, Telemetry}
use Rattle.mm_packet.specs.declared.header.TheConstants.{IDLE_APID}
use Rattle.mm_packet.specs.declared.reading.Primary.{Primary}
use Rattle.mm_packet.specs.declared.reading.Secondary.{Secondary}
use Rattle.mm_packet.specs.Packet.{SpacePacket, FitsType, IsPacket, room_for_body}
use Rattle.mm_packet.specs.Spelling.{type_bit, identification, sequence_control, data_length, type_fields, data_field}
use Rattle.mm_packet.specs.Spelling.{spelling}
use Rattle.mm_packet.specs.Headers.{FitsPrimary, primary_octets, version_of, flag_of, sequence_flags_of}
use Rattle.mm_packet.specs.Headers.{secondary_octets, primary_at, type_at, secondary_at, fault_of, is_telecommand}
use Rattle.mm_packet.specs.Headers.{apid_of, count_of}
use Rattle.mm_base.specs.Reading.{Gives}
use Rattle.mm_packet.specs.Reading.{tested, data_field_at, packet_at}
use Rattle.mm_base.proofs.NumberFields.{number16_again, number64_again}

-- the numbers of a packet's primary header
primary_of : SpacePacket → Primary
primary_of packet = record {
  identification = identification packet;
  sequence_control = sequence_control packet;
  data_length = data_length packet;
}

-- the fields of a packet's secondary header
secondary_of : SpacePacket → Secondary
secondary_of packet =
    record {
      first = 2 * 2 ^ 4 + packet.header.low;
      service = packet.header.service;
      subtype = packet.header.subtype;
      kind = packet.kind;
    }

-- the numbers of a primary header are read again
primary_again : (primary : Primary) (rest : List ℕ) → FitsPrimary primary
    → primary_at (primary_octets primary ++ rest) ≡ Some (primary, rest)
unfolding primary_at
primary_again primary rest small =
    rw (number16_again primary.identification _ small.identification)
    (rw (number16_again primary.sequence_control _ small.sequence_control)
    (rw (number16_again primary.data_length _ small.data_length) refl))

-- the fields of a packet type are read again
type_again : (kind : PacketType) (rest : List ℕ) → FitsType kind
    → type_at (type_bit kind == 1) (type_fields kind ++ rest) ≡ Some (kind, rest)
unfolding type_at
type_again (Telecommand source) rest small = rw (number16_again source rest small) refl
type_again (Telemetry counter destination time) rest small =
    rw (number16_again counter (to_be_bytes w16 destination ++ (to_be_bytes w64 time ++ rest)) small.0)
    (rw (number16_again destination (to_be_bytes w64 time ++ rest) small.1, number64_again time rest small.2) refl)

-- a secondary header is read again
secondary_again : (secondary : Secondary) (rest : List ℕ) → FitsType secondary.kind
    → secondary_at (type_bit secondary.kind == 1) (secondary_octets secondary ++ rest) ≡ Some (secondary, rest)
unfolding secondary_at
secondary_again secondary rest small = rw (type_again secondary.kind rest small) refl

-- a data field is found again, and what follows it
data_field_again : (primary : Primary) (field rest : List ℕ) → length field ≡ primary.data_length + 1
    → data_field_at primary (field ++ rest) ≡ Some (field, rest)
data_field_again primary field rest len =
    let long : leb (length (field ++ rest)) primary.data_length ≡ false =
    grind (arith, nat_tests, length-append field rest) in
    rw (long, take_at field rest (primary.data_length + 1) len, drop_at field rest (primary.data_length + 1) len) refl

-- a packet type is one bit
bit_of : (kind : PacketType) → type_bit kind ≤ 1
bit_of (Telecommand source) = omega arith
bit_of (Telemetry counter destination time) = omega arith

-- a secondary header and its data are a data field
field_len : (kind : PacketType) (body : List ℕ) → length body ≤ room_for_body kind
    → length (type_fields kind) + length body + 3 ≤ 2 ^ 16
field_len (Telecommand source) body small = omega arith
field_len (Telemetry counter destination time) body small = omega arith

-- a primary header with the bits of the profile passes its tests
no_fault : (primary : Primary) → version_of primary ≡ 0 → apid_of primary < IDLE_APID → flag_of primary ≡ 1
    → sequence_flags_of primary ≡ 3 → fault_of primary ≡ None
no_fault primary version apid flag flags = grind (arith, nat_tests)

-- a primary header that no test refuses is passed on
tested_passes : (primary : Primary) → fault_of primary ≡ None → tested primary ≡ Ok primary
tested_passes primary none = rw none refl

-- a packet's primary header passes its tests
tested_again : (packet : SpacePacket) → IsPacket packet → tested (primary_of packet) ≡ Ok (primary_of packet)
unfolding primary_of
tested_again packet fits =
    let bit = bit_of packet.kind in
    tested_passes (primary_of packet)
    (no_fault (primary_of packet) (omega (arith, fits.apid, bit)) (omega (arith, fits.apid))
    (omega (arith, fits.apid)) (omega (arith, fits.count)))

-- the bits of the two headers are the packet's fields
record Parts (packet : SpacePacket) : Type 0 where
  kind : is_telecommand (primary_of packet) ≡ (type_bit packet.kind == 1)
  apid : apid_of (primary_of packet) ≡ packet.header.apid
  count : count_of (primary_of packet) ≡ packet.header.count
  version : (secondary_of packet).first / 2 ^ 4 ≡ 2
  low : (secondary_of packet).first % 2 ^ 4 ≡ packet.header.low

-- a packet's headers have its fields
parts_of : (packet : SpacePacket) → IsPacket packet → Parts packet
unfolding primary_of secondary_of
parts_of packet fits =
    let bit = bit_of packet.kind in
    record {
      kind = ap (λ (n : ℕ). n == 1) (omega (arith, fits.apid, bit));
      apid = omega (arith, fits.apid);
      count = omega (arith, fits.count);
      version = omega (arith, fits.low);
      low = omega (arith, fits.low);
    }

-- a packet that was written is read again, whatever follows
pub packet_again : (packet : SpacePacket) (rest : List ℕ) → IsPacket packet
    → packet_at (spelling packet ++ rest) ≡ Ok (packet, rest)
unfolding packet_at primary_of secondary_of
packet_again packet rest fits =
    let bit = bit_of packet.kind in
    let room = field_len packet.kind packet.body fits.body in
    let parts = parts_of packet fits in
    let len : length (data_field packet) ≡ data_length packet + 1 = omega arith in
    let small : length (data_field packet) ≤ 2 ^ 16 =
    omega (arith, length-append (type_fields packet.kind) packet.body) in
    let primary_fits : FitsPrimary (primary_of packet) =
    record {
      identification = omega (arith, fits.apid);
      sequence_control = omega (arith, fits.count);
      data_length = omega arith;
    } in
    rw (primary_again (primary_of packet) (data_field packet ++ rest) primary_fits, tested_again packet fits)
    (rw (data_field_again (primary_of packet) (data_field packet) rest len, parts.kind)
    (rw (secondary_again (secondary_of packet) packet.body fits.kind, parts.version, parts.apid, parts.count, parts.low)
    refl))

-- two answers that are equal have equal parts
same_parts : (a b : SpacePacket) (x y : List ℕ) (read : Result (SpacePacket × List ℕ) Fault) → read ≡ Ok (a, x)
    → read ≡ Ok (b, y) → (a ≡ b) × (x ≡ y)
same_parts a b x y read one other =
    let pair : (SpacePacket × List ℕ) → Result (SpacePacket × List ℕ) Fault = λ p. Ok p in
    let both : pair (a, x) ≡ pair (b, y) = sym one ∙ other in
    let joined : (a, x) ≡ (b, y) = cc in
    (ap (λ (p : SpacePacket × List ℕ). p.0) joined, ap (λ (p : SpacePacket × List ℕ). p.1) joined)

-- one packet has one spelling
pub one_packet : (a b : SpacePacket) (x y : List ℕ) → IsPacket a → IsPacket b → spelling a ++ x ≡ spelling b ++ y
    → (a ≡ b) × (x ≡ y)
one_packet a b x y a_fits b_fits same =
    same_parts a b x y (packet_at (spelling a ++ x)) (packet_again a x a_fits)
    (ap packet_at same ∙ packet_again b y b_fits)

-- a refusal is out of memory, or another one
lacks_or_not : (fault : Fault) → (fault ≡ NoMemory) ⊎ (fault ≢ NoMemory)
lacks_or_not NoMemory = inl refl
lacks_or_not Short = inr (λ same. cc)
lacks_or_not Version = inr (λ same. cc)
lacks_or_not NoSecondaryHeader = inr (λ same. cc)
lacks_or_not PusVersion = inr (λ same. cc)
lacks_or_not Segmented = inr (λ same. cc)
lacks_or_not Idle = inr (λ same. cc)
lacks_or_not HeaderCut = inr (λ same. cc)

-- a packet that is read there is not refused
not_refused : {X : Type 0} (fault : Fault) (x : X) (read : Result X Fault) → read ≡ Ok x
    → (fault ≢ NoMemory → read ≡ Err fault) → fault ≡ NoMemory
not_refused fault x read is given =
    elim (lacks_or_not fault) [ inl lacks ↦ lacks | inr other ↦ absurd (let refused = given other in cc) ]

-- where the definition gives a packet and a rest, the function returns both, or is out of memory
pub is_only : {R : Type 0} (now : R → List ℕ) (result : Result (SpacePacket × R) Fault) (packet : SpacePacket)
    (rest : List ℕ) (read : Result (SpacePacket × List ℕ) Fault)
    → read ≡ Ok (packet, rest) → Gives NoMemory (λ x. (x.0, now x.1)) result read
    → MatchResult result (λ x. (x.0 ≡ packet) × (now x.1 ≡ rest)) (λ fault. fault ≡ NoMemory)
is_only now (Ok x) packet rest read is given = same_parts x.0 packet (now x.1) rest read given is
is_only now (Err fault) packet rest read is given = not_refused fault (packet, rest) read is given
