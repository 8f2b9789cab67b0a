-- Good digits are those that spell octets.
use Rattle.std.proofs.Common.{◌≡◌, ℕ, ◌%◌, ◌==◌, true, false, List, length, Result, Ok, Err, refl, sym, ap, ◌∙◌, arith, eq-eqb}
use Rattle.std.specs.Char.{is_ascii_hexdigit}
use Rattle.std.specs.List.{list_all}
use Rattle.std.proofs.lemmas.Bool.Decides.{nat_tests, Decides-by_and}
use Rattle.hex.specs.Hex.{decode_of, is_hex_digit}
use Rattle.hex.proofs.HexLemmas.{decode_of-ok}
use Rattle.mm_base.specs.Reading.{◌>>=◌}
use Rattle.mm_packet.specs.Packet.{SpacePacket}
use Rattle.mm_st15.specs.Request.{request_fault}
use Rattle.mm_ask.specs.declared.fault.LineFault.{LineFault}
use Rattle.mm_ask.specs.declared.fault.LineFault.TheVariants.{HexLine}
use Rattle.mm_ask.specs.Line.{has_digits, digits_tested, octets_in, packet_alone, packet_of, request_alone, request_of, request_tested}

-- the two tests of a digit are one
same_digit : (c : ℕ) → is_ascii_hexdigit c ≡ is_hex_digit c
same_digit c = grind (arith, nat_tests)

pub same_digits : (line : List ℕ) → list_all is_ascii_hexdigit line ≡ list_all is_hex_digit line
same_digits line = λ i. list_all (λ c. same_digit c i) line

-- where octets are spelled the digits are good
pub spelled : (line octets : List ℕ) → decode_of line ≡ Ok octets → has_digits line ≡ true
spelled line octets is =
    let good = decode_of-ok line octets is in
    let even : (length line % 2 == 0) ≡ true = eq-eqb (length line % 2) 0 good.0 in
    let digits : list_all is_hex_digit line ≡ true = (Decides-by_and is_hex_digit (λ c. is_hex_digit c ≡ true) (list_all is_hex_digit) (λ c. (λ h. h, λ h. h)) refl (λ _ _. refl) line).1 good.1 in
    rw (even, digits) refl

-- where the digits are not good none are spelled
pub none_spelled : (line : List ℕ) → has_digits line ≡ false → octets_in line ≡ Err HexLine
none_spelled line bad =
    elim (decode_of line) as (λ r. decode_of line ≡ r → digits_tested r ≡ Err HexLine) [
      | Ok octets ↦ λ is. cc (sym bad ∙ spelled line octets is)
      | Err e ↦ λ is. refl
    ] refl

-- the request of a line is that of its packet
pub request_of_packet : (line : List ℕ) (r : Result SpacePacket LineFault) → packet_of line ≡ r → request_of line ≡ (r >>= (λ packet. request_tested packet (request_fault packet)))
unfolding packet_of request_of
request_of_packet line r is =
    elim (octets_in line) as (λ o. (o >>= packet_alone) ≡ r → (o >>= request_alone) ≡ (r >>= (λ packet. request_tested packet (request_fault packet)))) [
      | Ok octets ↦ λ alone. ap (λ p. p >>= (λ packet. request_tested packet (request_fault packet))) alone
      | Err e ↦ λ alone. ap (λ p. p >>= (λ packet. request_tested packet (request_fault packet))) alone
    ] is
