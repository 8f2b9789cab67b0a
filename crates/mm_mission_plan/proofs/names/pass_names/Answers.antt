use Rattle.std.proofs.Common.{◌∙◌, ◌<◌, arith, length}
use Rattle.mm_mission_plan.proofs.Named.{name_at, names_more}
use Rattle.mm_mission_plan.proofs.names.pass_names.Goals as goal

pub rows-preserved : goal.rows-preserved
rows-preserved c =
    let passes = c.args.passes.now in
    let rows = c.args.rows.now in
    let below : c.rows.place < length rows = omega arith in
    let name = c.as_str.ensures.value
    ∙ name_at passes rows c.rows.place below c.args.names.now c.index-names-place.result c.requires
    c.index-names-place.is in
    rw c.in_ok-push.ensures.items
    (names_more passes rows c.rows.place below c.rows.found.items
    (record { station = c.station_of.result; name = c.as_str.result }) c.rows.invariant name c.station_of.ensures)
