use Rattle.std.proofs.Common.{sym, ◌∙◌, arith}
use Rattle.std.proofs.lemmas.Result.{err_from_is_err_and}
use Rattle.mm_problem.proofs.DataLaws.{row_passed, row_fault}
use Rattle.mm_problem.proofs.data.test_rows.Goals as goal

pub returns-in_err-test : goal.returns-in_err-test
returns-in_err-test g c =
    let p = err_from_is_err_and c.from_residual.result c.from_residual.ensures.1 in
    rw (p.1, p.2) (λ other. sym c.loop-place.invariant
    ∙ row_fault g.R.Tested.fits c.args.rows.now c.loop-place.place c.index-rows-place.result (omega arith) c.index-rows-place.is c.in_err-test.field-0.0 (c.in_err-test.ensures other))

pub loop-place-preserved : goal.loop-place-preserved
loop-place-preserved g c =
    sym (row_passed g.R.Tested.fits c.args.rows.now c.loop-place.place c.index-rows-place.result (omega arith) c.index-rows-place.is c.in_ok-test.ensures) ∙ c.loop-place.invariant
