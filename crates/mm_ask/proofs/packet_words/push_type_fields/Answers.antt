use Rattle.std.proofs.Common.{arith, append_assoc}
use Rattle.mm_ask.proofs.HeaderLemmas.{telemetry_words}
use Rattle.mm_ask.proofs.packet_words.push_type_fields.Goals as goal

pub returns : goal.returns
returns c =
    let kind = c.args.packet.now.kind in
    rw (telemetry_words kind c.counter.result c.destination.result c.time.result c.counter.ensures.value c.destination.ensures.value c.time.ensures.value)
    (grind (arith, append_assoc))
