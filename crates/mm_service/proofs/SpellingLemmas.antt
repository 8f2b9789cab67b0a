-- What is read from octets stands there, octet for octet: the headers of a packet, and packets.
use Rattle.mm_service.proofs.Words.{◌≡◌, ℕ, zero, suc, ◌+◌, ◌<◌, ◌^◌, Bool, true, false, cond, List, [], ◌∷◌, ◌++◌}
use Rattle.mm_service.proofs.Words.{length, get_or, take, drop, refl, sym, ap, subst, ◌∙◌, arith, append_assoc}
use Rattle.mm_service.proofs.Words.{if◌then◌else◌, nat_lt, nat_le, Option, Some, None, All-tail, none-some, same_Some}
use Rattle.mm_service.proofs.Words.{PacketType, Telecommand, Telemetry, data_field_at, type_bit, type_fields, AreOctets}
use Rattle.mm_service.proofs.Words.{◌==◌, ◌/◌, Result, Ok, Err, ok_or, eqb-true, append-nil, bind_ok, ok_or_ok, cond_ok}
use Rattle.mm_service.proofs.Words.{ok_same, SpacePacket, tested, packet_of, spelling, request_fault, LineFault, said}
use Rattle.mm_service.proofs.Words.{block_tested, block_of, request_of}
use Rattle.std.specs.Int.{w16, w64, to_be_bytes, from_be_bytes}
use Rattle.std.proofs.lemmas.Bool.Decides.{nat_tests}
use Rattle.std.proofs.lemmas.List.{length-take, length-drop, take-append-drop}
use Rattle.std.proofs.lemmas.List.Elements.{All-head, All-take, All-drop}
use Rattle.std.proofs.lemmas.Nat.{be_bytes_2, be_bytes_8}
use Rattle.mm_base.specs.NumberFields.{front_octet, number_at}
use Rattle.mm_base.specs.Options.{◌>>=◌}
use Rattle.mm_packet.specs.Headers.{primary_at, primary_octets, FitsPrimary, type_at, secondary_at, secondary_octets}
use Rattle.mm_packet.specs.Headers.{fault_of, is_telecommand}
use Rattle.mm_packet.proofs.NumberLemmas.{spelled_front}
use Rattle.mm_packet.specs.declared.block.TheConstants.{BLOCK}
use Rattle.mm_packet.specs.declared.fault.Fault.{Fault as PacketFault}
use Rattle.mm_packet.specs.declared.fault.Fault.TheVariants.{Short, HeaderCut, PusVersion}
use Rattle.mm_packet.specs.Reading.{packet_at}
use Rattle.mm_packet.proofs.FoundLemmas.{is_found}
use Rattle.mm_st15.specs.declared.fault.Fault.{Fault as RequestFault}
use Rattle.mm_ask.specs.Line.{alone, packet_alone, request_tested, request_alone}

-- what a function takes
abbrev Taken : {A B : Type 0} → (A → B) → Type 0
Taken {A = A} f = A

-- the numbers of the two headers
abbrev pub Primary : Type 0
Primary = Taken primary_octets

abbrev pub Secondary : Type 0
Secondary = Taken secondary_octets

-- a step that found something
found_by : {A B : Type 0} (o : Option A) (f : A → Option B) (y : B) → (o >>= f) ≡ Some y
    → (x : A) × (o ≡ Some x) × (f x ≡ Some y)
found_by (Some x) f y e = (x, refl, e)
found_by None f y e = absurd (none-some y e)

-- each octet is below 256, and so is what stands after the last
at_small : (octets : List ℕ) → AreOctets octets → (i : ℕ) → get_or octets i 0 < 256
at_small [] all i = omega arith
at_small (x ∷ xs) all zero = All-head (λ octet. octet < 256) x xs all
at_small (x ∷ xs) all (suc i) = at_small xs (All-tail (λ octet. octet < 256) x xs all) i

-- octets begin with these
pub record Begins (octets front rest : List ℕ) : Type 0 where
  pub is : octets ≡ front ++ rest
  pub small : AreOctets rest

then_begins : (octets a b rest more : List ℕ) → Begins octets a rest → Begins rest b more → Begins octets (a ++ b) more
then_begins octets a b rest more first second =
    record { is = first.is ∙ ap (λ l. a ++ l) second.is ∙ sym (append_assoc a b more); small = second.small }

module _ (octets : List ℕ) (all : AreOctets octets) where
  number16 : (x : ℕ × List ℕ) → number_at w16 octets ≡ Some x → Begins octets (to_be_bytes w16 x.0) x.1 × (x.0 < 2 ^ 16)
  number16 x e = by_test (nat_lt (length octets) 2) refl e
    where
      by_test : (b : Bool) → nat_lt (length octets) 2 ≡ b
          → cond b None (Some (from_be_bytes w16 (take 2 octets), drop 2 octets)) ≡ Some x
          → Begins octets (to_be_bytes w16 x.0) x.1 × (x.0 < 2 ^ 16)
      by_test true short e = absurd (none-some x e)
      by_test false long e =
          let front = take 2 octets in
          let small = at_small front (All-take (λ octet. octet < 256) 2 octets all) in
          subst (λ (y : ℕ × List ℕ). Begins octets (to_be_bytes w16 y.0) y.1 × (y.0 < 2 ^ 16))
          (same_Some (from_be_bytes w16 front, drop 2 octets) x e) (
            record {
              is = spelled_front 2 octets front (drop 2 octets) (to_be_bytes w16 (from_be_bytes w16 front))
                  (refl, refl, grind (arith, nat_tests, length-drop 2 octets)) (at_small octets all)
                  (λ size below. be_bytes_2 front (from_be_bytes w16 front) size below refl);
              small = All-drop (λ octet. octet < 256) 2 octets all;
            },
            omega (arith, small 0, small 1),
          )

  number64 : (x : ℕ × List ℕ) → number_at w64 octets ≡ Some x → Begins octets (to_be_bytes w64 x.0) x.1
  number64 x e = by_test (nat_lt (length octets) 8) refl e
    where
      by_test : (b : Bool) → nat_lt (length octets) 8 ≡ b
          → cond b None (Some (from_be_bytes w64 (take 8 octets), drop 8 octets)) ≡ Some x
          → Begins octets (to_be_bytes w64 x.0) x.1
      by_test true short e = absurd (none-some x e)
      by_test false long e =
          let front = take 8 octets in
          subst (λ (y : ℕ × List ℕ). Begins octets (to_be_bytes w64 y.0) y.1)
          (same_Some (from_be_bytes w64 front, drop 8 octets) x e) (record {
            is = spelled_front 8 octets front (drop 8 octets) (to_be_bytes w64 (from_be_bytes w64 front))
                (refl, refl, grind (arith, nat_tests, length-drop 8 octets)) (at_small octets all)
                (λ size below. be_bytes_8 front (from_be_bytes w64 front) size below refl);
            small = All-drop (λ octet. octet < 256) 8 octets all;
          })

front_is : (octets : List ℕ) → AreOctets octets → (x : ℕ × List ℕ) → front_octet octets ≡ Some x
    → Begins octets (x.0 ∷ []) x.1
front_is [] all x e = absurd (none-some x e)
front_is (octet ∷ rest) all x e =
    subst (λ (y : ℕ × List ℕ). Begins (octet ∷ rest) (y.0 ∷ []) y.1) (same_Some (octet, rest) x e)
    (record { is = refl; small = All-tail (λ octet. octet < 256) octet rest all })

-- a primary header
pub primary_is : (octets : List ℕ) → AreOctets octets → (x : Primary × List ℕ) → primary_at octets ≡ Some x
    → Begins octets (primary_octets x.0) x.1 × FitsPrimary x.0
unfolding primary_at
primary_is octets all x e =
    let a = found_by (number_at w16 octets) _ x e in
    let one = number16 octets all a.0 a.1 in
    let b = found_by (number_at w16 a.0.1) _ x a.2 in
    let two = number16 a.0.1 one.0.small b.0 b.1 in
    let c = found_by (number_at w16 b.0.1) _ x b.2 in
    let three = number16 b.0.1 two.0.small c.0 c.1 in
    let whole : Primary × List ℕ =
    (record { identification = a.0.0; sequence_control = b.0.0; data_length = c.0.0 }, c.0.1) in
    subst (λ (y : Primary × List ℕ). Begins octets (primary_octets y.0) y.1 × FitsPrimary y.0) (same_Some whole x c.2) (
      then_begins octets (to_be_bytes w16 a.0.0 ++ to_be_bytes w16 b.0.0) (to_be_bytes w16 c.0.0) b.0.1 c.0.1
          (then_begins octets (to_be_bytes w16 a.0.0) (to_be_bytes w16 b.0.0) a.0.1 b.0.1 one.0 two.0) three.0,
      record { identification = one.1; sequence_control = two.1; data_length = three.1 },
    )

-- the fields of a packet type
type_is : (telecommand : Bool) (octets : List ℕ) → AreOctets octets → (x : PacketType × List ℕ)
    → type_at telecommand octets ≡ Some x
    → Begins octets (type_fields x.0) x.1 × (type_bit x.0 ≡ (if telecommand then 1 else 0))
unfolding type_at
type_is true octets all x e =
    let a = found_by (number_at w16 octets) _ x e in
    let one = number16 octets all a.0 a.1 in
    subst (λ (y : PacketType × List ℕ). Begins octets (type_fields y.0) y.1 × (type_bit y.0 ≡ 1))
    (same_Some (Telecommand a.0.0, a.0.1) x a.2) (one.0, refl)
type_is false octets all x e =
    let a = found_by (number_at w16 octets) _ x e in
    let one = number16 octets all a.0 a.1 in
    let b = found_by (number_at w16 a.0.1) _ x a.2 in
    let two = number16 a.0.1 one.0.small b.0 b.1 in
    let c = found_by (number_at w64 b.0.1) _ x b.2 in
    let three = number64 b.0.1 two.0.small c.0 c.1 in
    subst (λ (y : PacketType × List ℕ). Begins octets (type_fields y.0) y.1 × (type_bit y.0 ≡ 0))
    (same_Some (Telemetry a.0.0 b.0.0 c.0.0, c.0.1) x c.2) (
      then_begins octets (to_be_bytes w16 a.0.0 ++ to_be_bytes w16 b.0.0) (to_be_bytes w64 c.0.0) b.0.1 c.0.1
          (then_begins octets (to_be_bytes w16 a.0.0) (to_be_bytes w16 b.0.0) a.0.1 b.0.1 one.0 two.0) three,
      refl,
    )

-- a secondary header
pub secondary_is : (telecommand : Bool) (octets : List ℕ) → AreOctets octets → (x : Secondary × List ℕ)
    → secondary_at telecommand octets ≡ Some x
    → Begins octets (secondary_octets x.0) x.1 × (type_bit x.0.kind ≡ (if telecommand then 1 else 0))
unfolding secondary_at
secondary_is telecommand octets all x e =
    let a = found_by (front_octet octets) _ x e in
    let one = front_is octets all a.0 a.1 in
    let b = found_by (front_octet a.0.1) _ x a.2 in
    let two = front_is a.0.1 one.small b.0 b.1 in
    let c = found_by (front_octet b.0.1) _ x b.2 in
    let three = front_is b.0.1 two.small c.0 c.1 in
    let d = found_by (type_at telecommand c.0.1) _ x c.2 in
    let four = type_is telecommand c.0.1 three.small d.0 d.1 in
    let whole : Secondary × List ℕ =
    (record { first = a.0.0; service = b.0.0; subtype = c.0.0; kind = d.0.0 }, d.0.1) in
    subst (λ (y : Secondary × List ℕ). Begins octets (secondary_octets y.0) y.1
    × (type_bit y.0.kind ≡ (if telecommand then 1 else 0))) (same_Some whole x d.2) (
      then_begins octets (a.0.0 ∷ []) (b.0.0 ∷ c.0.0 ∷ type_fields d.0.0) a.0.1 d.0.1 one
          (then_begins a.0.1 (b.0.0 ∷ []) (c.0.0 ∷ type_fields d.0.0) b.0.1 d.0.1 two
          (then_begins b.0.1 (c.0.0 ∷ []) (type_fields d.0.0) c.0.1 d.0.1 three four.0)),
      four.1,
    )

-- a data field
pub record Parts (primary : Primary) (octets : List ℕ) (x : List ℕ × List ℕ) : Type 0 where
  pub is : octets ≡ x.0 ++ x.1
  pub len : length x.0 ≡ primary.data_length + 1
  pub small : AreOctets x.0

pub data_field_is : (primary : Primary) (octets : List ℕ) → AreOctets octets → (x : List ℕ × List ℕ)
    → data_field_at primary octets ≡ Some x → Parts primary octets x
data_field_is primary octets all x e = by_test (nat_le (length octets) primary.data_length) refl e
  where
    by_test : (b : Bool) → nat_le (length octets) primary.data_length ≡ b
        → cond b None (Some (take (primary.data_length + 1) octets, drop (primary.data_length + 1) octets)) ≡ Some x
        → Parts primary octets x
    by_test true short e = absurd (none-some x e)
    by_test false long e =
        subst (Parts primary octets) (same_Some
        (take (primary.data_length + 1) octets, drop (primary.data_length + 1) octets) x e) (record {
          is = sym (take-append-drop (primary.data_length + 1) octets);
          len = grind (arith, nat_tests, length-take (primary.data_length + 1) octets);
          small = All-take (λ octet. octet < 256) (primary.data_length + 1) octets all;
        })

-- a fault is no value
pub no_value : {F A : Type 0} (fault : F) (x : A) → ◌≡◌ {A = Result A F} (Err fault) (Ok x) → ⊥
no_value fault x e = absurd cc

-- a header that passes its tests is as it was
tested_same : (primary passed : Primary) (fault : Option PacketFault) → fault_of primary ≡ fault
    → tested primary ≡ Ok passed → (primary ≡ passed) × (fault_of primary ≡ None)
tested_same primary passed None none e = (ok_same primary passed (rw none at e), none)
tested_same primary passed (Some fault) refused e = absurd (no_value fault passed (rw refused at e))

-- a packet at the front of the octets
packet_is : (octets : List ℕ) → AreOctets octets → (x : SpacePacket × List ℕ) → packet_at octets ≡ Ok x
    → octets ≡ spelling x.0 ++ x.1
unfolding packet_at
packet_is octets all x e =
    let a = bind_ok (ok_or (primary_at octets) Short) _ x e in
    let front = primary_is octets all a.0 (ok_or_ok (primary_at octets) Short a.0 a.1) in
    let b = bind_ok (tested a.0.0) _ x a.2 in
    let passed = tested_same a.0.0 b.0 (fault_of a.0.0) refl b.1 in
    let c = bind_ok (ok_or (data_field_at b.0 a.0.1) Short) _ x b.2 in
    let field = data_field_is b.0 a.0.1 front.0.small c.0 (ok_or_ok (data_field_at b.0 a.0.1) Short c.0 c.1) in
    let d = bind_ok (ok_or (secondary_at (is_telecommand b.0) c.0.0) HeaderCut) _ x c.2 in
    let second = secondary_is (is_telecommand b.0) c.0.0 field.small d.0
    (ok_or_ok (secondary_at (is_telecommand b.0) c.0.0) HeaderCut d.0 d.1) in
    let version = cond_ok (d.0.0.first / 2 ^ 4 == 2) (packet_of b.0 d.0.0 d.0.1, c.0.1) PusVersion x d.2 in
    subst (λ (y : SpacePacket × List ℕ). octets ≡ spelling y.0 ++ y.1) version.1
    (is_found octets a.0.1 c.0.0 c.0.1 b.0 d.0.0 d.0.1 (subst FitsPrimary passed.0 front.1)
    (ap fault_of (sym passed.0) ∙ passed.1) second.1 (eqb-true _ _ version.0)
    (front.0.is ∙ ap (λ (p : Primary). primary_octets p ++ a.0.1) passed.0) field.is field.len second.0.is)

-- a packet with nothing after it
alone_is : (octets : List ℕ) → AreOctets octets
    → (packet : SpacePacket) (r : Result (SpacePacket × List ℕ) PacketFault) → packet_at octets ≡ r
    → alone r ≡ Ok packet → octets ≡ spelling packet
alone_is octets all packet (Ok (p, [])) read e =
    packet_is octets all (p, []) read ∙ append-nil (spelling p) ∙ ap spelling (ok_same p packet e)
alone_is octets all packet (Ok (p, octet ∷ more)) read e = absurd cc
alone_is octets all packet (Err fault) read e = absurd cc

said_ok : {A : Type 0} (r : Result A LineFault) (x : A) → said r ≡ Ok x → r ≡ Ok x
said_ok (Ok y) x e = ap Ok (ok_same y x e)
said_ok (Err fault) x e = absurd cc

-- a packet that a block has room for
pub block_is : (octets : List ℕ) → AreOctets octets → (packet : SpacePacket) → block_of octets ≡ Ok packet
    → octets ≡ spelling packet
block_is octets all packet e =
    let a = bind_ok (said (packet_alone octets)) block_tested packet e in
    let same = cond_ok (nat_le (length (spelling a.0)) BLOCK) a.0 _ packet a.2 in
    alone_is octets all a.0 (packet_at octets) refl (said_ok (packet_alone octets) a.0 a.1) ∙ ap spelling same.1

-- a packet that asks a request
request_same : (p packet : SpacePacket) (fault : Option RequestFault) → request_tested p fault ≡ Ok packet → p ≡ packet
request_same p packet None e = ok_same p packet e
request_same p packet (Some fault) e = absurd cc

pub request_is : (octets : List ℕ) → AreOctets octets → (packet : SpacePacket) → request_of octets ≡ Ok packet
    → octets ≡ spelling packet
request_is octets all packet e =
    let a = bind_ok (packet_alone octets) _ packet (said_ok (request_alone octets) packet e) in
    alone_is octets all a.0 (packet_at octets) refl a.1 ∙ ap spelling (request_same a.0 packet (request_fault a.0) a.2)
