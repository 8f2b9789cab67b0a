use Rattle.std.specs.Int.{w16, w64, to_be_bytes}
use Rattle.mm_packet.proofs.ListLemmas.{appended_thrice}
use Rattle.mm_packet.proofs.writing.put_type_fields.Goals as goal

pub returns-in_ok-extend_from_slice-in-Telemetry-3 : goal.returns-in_ok-extend_from_slice-in-Telemetry-3
returns-in_ok-extend_from_slice-in-Telemetry-3 c =
    rw c.in-Telemetry.is (appended_thrice
    c.args.out.now.items (to_be_bytes w16 c.in-Telemetry.counter) (to_be_bytes w16 c.in-Telemetry.destination) (to_be_bytes w64 c.in-Telemetry.time)
    _ _ _ _ _ _
    c.to_be_bytes-in-Telemetry.ensures c.to_be_bytes-in-Telemetry-2.ensures c.to_be_bytes-in-Telemetry-3.ensures
    c.in_ok-extend_from_slice-in-Telemetry.ensures.items c.in_ok-extend_from_slice-in-Telemetry-2.ensures.items c.in_ok-extend_from_slice-in-Telemetry-3.ensures.items)
