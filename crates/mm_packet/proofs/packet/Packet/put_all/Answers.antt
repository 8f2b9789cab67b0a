use Rattle.std.proofs.Common.{◌≡◌, ℕ, ◌+◌, ◌*◌, ◌^◌, List, [], ◌∷◌, refl, ap, ◌∙◌}
use Rattle.std.specs.Int.{w16, to_be_bytes}
use Rattle.mm_packet.specs.Spelling.{identification, sequence_control, data_length, type_fields}
use Rattle.mm_packet.specs.Packet.{SpacePacket}
use Rattle.mm_packet.proofs.BufferLemmas.{three_same, then_more, from_start, same_octets}
use Rattle.mm_packet.proofs.packet.Packet.put_all.Goals as goal

-- the octets of the secondary header before the fields of the packet type
abbrev secondary_start : SpacePacket → List ℕ
secondary_start p = (2 * 2 ^ 4 + p.header.low) ∷ p.header.service ∷ p.header.subtype ∷ []

pub returns : goal.returns
returns c =
    let p = c.args.self.now in
    let body = same_octets _ _ p.body _ _ c.body.ensures.value c.put-end.ensures.written in
    let kind_is : type_fields c.self.inside.kind ≡ type_fields p.kind = ap (λ q. type_fields q.kind) c.self.view_is in
    let service_is = ap (λ q. q.header.service) c.self.view_is in
    let subtype_is = ap (λ q. q.header.subtype) c.self.view_is in
    let field = then_more _ _ (type_fields c.self.inside.kind) (type_fields p.kind) _ _ _ _ kind_is c.put_type_fields-at.ensures.after c.put_type_fields-at.ensures.written body in
    let message = then_more _ _ _ (secondary_start p) _ _ _ _ (three_same _ _ _ _ _ _ c.first_octet-first.ensures service_is subtype_is) c.put-at-4.ensures.after c.put-at-4.ensures.written field in
    let len_is = c.to_be_bytes-3.ensures ∙ ap (to_be_bytes w16) c.data_length.ensures.value in
    let control_is = c.to_be_bytes-2.ensures ∙ ap (to_be_bytes w16) c.sequence_control.ensures in
    let id_is = c.to_be_bytes.ensures ∙ ap (to_be_bytes w16) c.identification.ensures in
    let third = then_more _ _ _ (to_be_bytes w16 (data_length p)) _ _ _ _ len_is c.put-at-3.ensures.after c.put-at-3.ensures.written message in
    let second = then_more _ _ _ (to_be_bytes w16 (sequence_control p)) _ _ _ _ control_is c.put-at-2.ensures.after c.put-at-2.ensures.written third in
    let all = then_more _ _ _ (to_be_bytes w16 (identification p)) _ _ _ _ id_is c.put-at.ensures.after c.put-at.ensures.written second in
    record { written = from_start _ _ _ _ refl all }
