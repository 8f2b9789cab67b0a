use Rattle.std.proofs.Common.{get_or, sym, ◌∙◌, arith}
use Rattle.std.proofs.lemmas.List.{get_or_default}
use Rattle.std.proofs.lemmas.Result.{err_from_is_err_and}
use Rattle.mm_mission_exact.proofs.EachRows.{each_none, each_next, each_fault}
use Rattle.mm_mission_exact.specs.Passes.{new_station}
use Rattle.mm_mission_exact.proofs.pass.test_stations.Goals as goal

pub returns-in_err-test_new : goal.returns-in_err-test_new
returns-in_err-test_new c =
    let p = err_from_is_err_and c.from_residual.result c.from_residual.ensures.1 in
    rw (p.1, p.2) (sym (c.loop-place.invariant ∙ each_fault (new_station c.args.stations.now)
    c.args.stations.now c.loop-place.place tt c.index-stations-place.result (omega arith)
    c.index-stations-place.is c.in_err-test_new.field-0.0 (sym c.in_err-test_new.ensures)))

pub loop-place-preserved : goal.loop-place-preserved
loop-place-preserved c = c.loop-place.invariant ∙ each_next (new_station c.args.stations.now)
    c.args.stations.now c.loop-place.place tt c.index-stations-place.result (omega arith)
    c.index-stations-place.is _ (sym c.in_ok-test_new.ensures)

pub returns : goal.returns
returns c = sym (c.loop-place.invariant ∙ each_none (new_station c.args.stations.now) c.args.stations.now
    c.loop-place.place tt (omega arith))
