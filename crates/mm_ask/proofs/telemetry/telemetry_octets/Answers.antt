use Rattle.std.proofs.Common.{◌≡◌, ◌∙◌, ap}
use Rattle.mm_packet.specs.Spelling.{spelling}
use Rattle.mm_ask.specs.Telemetry.{telemetry_of}
use Rattle.mm_ask.proofs.TelemetryLemmas.{telemetry_is}
use Rattle.mm_ask.proofs.telemetry.telemetry_octets.Goals as goal

pub returns : goal.returns
returns c =
    let wrote = c.in_ok-telemetry.ensures in
    let telemetry : c.in_ok-telemetry.telemetry ≡ telemetry_of c.args.asked.now c.args.numbers c.args.report.now =
    telemetry_is c.args.asked.now c.in_ok-telemetry.telemetry c.args.numbers c.args.report.now c.source.result
    wrote.spelled (wrote.apid ∙ c.apid.ensures.value) wrote.count wrote.low c.source.ensures.value wrote.kind in
    c.in_ok-octets.ensures.spelling ∙ ap spelling telemetry
