use Rattle.std.specs.Int.{w16, w64, to_be_bytes}
use Rattle.mm_packet.proofs.BufferLemmas.{then_more, same_octets}
use Rattle.mm_packet.proofs.buffer.put_type_fields.Goals as goal

pub returns-in-Telemetry-clause-written : goal.returns-in-Telemetry-clause-written
returns-in-Telemetry-clause-written c =
    let t = c.in-Telemetry in
    let time = same_octets _ _ (to_be_bytes w64 t.time) _ _ c.to_be_bytes-in-Telemetry-3.ensures c.put-in-Telemetry.ensures.written in
    let second = then_more _ _ _ (to_be_bytes w16 t.destination) _ _ _ _ c.to_be_bytes-in-Telemetry-2.ensures c.put-at-in-Telemetry.ensures.after c.put-at-in-Telemetry.ensures.written time in
    let all = then_more _ _ _ (to_be_bytes w16 t.counter) _ _ _ _ c.to_be_bytes-in-Telemetry.ensures c.put-at.ensures.after c.put-at.ensures.written second in
    rw t.is all
