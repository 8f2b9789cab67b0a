use Rattle.std.proofs.Common.{get_or, sym, ◌∙◌, arith}
use Rattle.std.proofs.lemmas.List.{get_or_default}
use Rattle.std.proofs.lemmas.Result.{err_from_is_err_and}
use Rattle.mm_mission.proofs.Tested.{follow_passed, follow_fault}
use Rattle.mm_mission.proofs.mission.test_apart.Goals as goal

pub returns-in_err-test : goal.returns-in_err-test
returns-in_err-test c =
    let p = err_from_is_err_and c.from_residual.result c.from_residual.ensures.1 in
    rw (p.1, p.2) (sym (sym c.loop-row.invariant
    ∙ follow_fault c.args.passes.now c.loop-row.row c.loop-row.free (get_or c.args.passes.now c.loop-row.row _)
    (omega arith) (get_or_default c.args.passes.now c.loop-row.row _ _ (omega arith)) c.in_err-test.field-0.0
    (sym c.in_err-test.ensures)))

pub loop-row-preserved : goal.loop-row-preserved
loop-row-preserved c =
    sym (follow_passed c.args.passes.now c.loop-row.row c.loop-row.free (get_or c.args.passes.now c.loop-row.row _)
    (omega arith) (get_or_default c.args.passes.now c.loop-row.row _ _ (omega arith)) _ (sym c.in_ok-test.ensures))
    ∙ c.loop-row.invariant
