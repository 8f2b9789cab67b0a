use Rattle.mm_run.proofs.Routes.{untaken_telemetry}
use Rattle.mm_run.proofs.untaken.is_unrouted.Goals as goal

pub returns : goal.returns
returns c = λ telemetry.
    let rows = c.rows_for-rows.ensures in
    rw c.is_empty.ensures (untaken_telemetry c.args.memory.now c.args.packet.now c.rows_for-rows.result.now telemetry
    c.requires
    (rw (
      c.apid.ensures.value,
      c.service.ensures.value,
      c.subtype.ensures.value,
      c.control-control.ensures.rows,
    ) at rows.rows)
    (rw (
      c.apid.ensures.value,
      c.service.ensures.value,
      c.subtype.ensures.value,
      c.control-control.ensures.rows,
    ) at rows.once))
