use Rattle.std.proofs.Common.{get_or, sym, ◌∙◌, arith}
use Rattle.std.proofs.lemmas.Result.{err_from_is_err_and}
use Rattle.std.proofs.lemmas.List.{get_or_default}
use Rattle.mm_problem.specs.Data.{column_fits}
use Rattle.mm_problem.proofs.DataLaws.{row_passed, row_fault}
use Rattle.mm_problem.proofs.data.test_each_column.Goals as goal

pub returns-in_err-test_column : goal.returns-in_err-test_column
returns-in_err-test_column c =
    let p = err_from_is_err_and c.from_residual.result c.from_residual.ensures.1 in
    rw (p.1, p.2) (λ other. sym c.loop-place.invariant
    ∙ row_fault (column_fits c.args.count) c.args.columns.now c.loop-place.place (get_or c.args.columns.now c.loop-place.place 0) (omega arith)
    (get_or_default c.args.columns.now c.loop-place.place 0 _ (omega arith)) c.in_err-test_column.field-0.0 (c.in_err-test_column.ensures other))

pub loop-place-preserved : goal.loop-place-preserved
loop-place-preserved c =
    sym (row_passed (column_fits c.args.count) c.args.columns.now c.loop-place.place (get_or c.args.columns.now c.loop-place.place 0)
    (omega arith) (get_or_default c.args.columns.now c.loop-place.place 0 _ (omega arith)) c.in_ok-test_column.ensures) ∙ c.loop-place.invariant
