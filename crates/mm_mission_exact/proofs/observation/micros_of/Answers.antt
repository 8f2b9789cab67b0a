use Rattle.std.proofs.Common.{get_or, sym, ◌∙◌, arith}
use Rattle.std.proofs.lemmas.List.{get_or_default}
use Rattle.std.proofs.lemmas.Result.{err_from_is_err_and}
use Rattle.mm_mission_exact.proofs.EachRows.{each_none, each_next, each_fault}
use Rattle.mm_mission_exact.specs.Observations.{and_common}
use Rattle.mm_mission_exact.proofs.observation.micros_of.Goals as goal

pub returns-in_err-micros : goal.returns-in_err-micros
returns-in_err-micros c =
    let p = err_from_is_err_and c.from_residual.result c.from_residual.ensures.1 in
    rw (p.1, p.2) (sym (c.loop-one.invariant ∙ each_fault (and_common c.args.store) c.args.arriving.now
    c.loop-one.one-index c.loop-one.micros (get_or c.args.arriving.now c.loop-one.one-index _) (omega arith)
    (get_or_default c.args.arriving.now c.loop-one.one-index _ _ (omega arith)) c.in_err-micros.field-0.0 (sym
    c.in_err-micros.ensures)))

pub loop-one-preserved : goal.loop-one-preserved
loop-one-preserved c = c.loop-one.invariant ∙ each_next (and_common c.args.store) c.args.arriving.now
    c.loop-one.one-index c.loop-one.micros (get_or c.args.arriving.now c.loop-one.one-index _) (omega arith)
    (get_or_default c.args.arriving.now c.loop-one.one-index _ _ (omega arith)) _ (sym c.in_ok-micros.ensures)

pub returns : goal.returns
returns c = sym (c.loop-one.invariant ∙ each_none (and_common c.args.store) c.args.arriving.now
    c.loop-one.one-index c.loop-one.micros (omega arith))
