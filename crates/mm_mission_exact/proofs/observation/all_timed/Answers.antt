use Rattle.std.proofs.Common.{get_or, sym, ◌∙◌, arith}
use Rattle.std.proofs.lemmas.List.{get_or_default}
use Rattle.std.proofs.lemmas.Result.{err_from_is_err_and}
use Rattle.mm_mission_exact.proofs.EachRows.{each_none, each_next, each_fault}
use Rattle.mm_mission_exact.specs.Observations.{and_timed}
use Rattle.mm_mission_exact.proofs.observation.all_timed.Goals as goal

pub returns-in_err-add_timed : goal.returns-in_err-add_timed
returns-in_err-add_timed c =
    let p = err_from_is_err_and c.from_residual.result c.from_residual.ensures.1 in
    rw (p.1, p.2) (λ other. c.loop-place.invariant ∙ each_fault (and_timed c.args.arriving.now)
    c.args.stores.now c.loop-place.place c.loop-place.timed.items c.index-stores-place.result (omega arith)
    c.index-stores-place.is c.in_err-add_timed.field-0.0 (c.in_err-add_timed.ensures other))

pub loop-place-preserved : goal.loop-place-preserved
loop-place-preserved c = c.loop-place.invariant ∙ each_next (and_timed c.args.arriving.now) c.args.stores.now
    c.loop-place.place c.loop-place.timed.items c.index-stores-place.result (omega arith)
    c.index-stores-place.is _ c.in_ok-add_timed.ensures

pub returns : goal.returns
returns c = c.loop-place.invariant ∙ each_none (and_timed c.args.arriving.now) c.args.stores.now
    c.loop-place.place c.loop-place.timed.items (omega arith)
