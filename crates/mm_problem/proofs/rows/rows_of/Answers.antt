use Rattle.std.proofs.Common.{◌∙◌, arith}
use Rattle.std.proofs.lemmas.Result.{err_from_is_err_and}
use Rattle.toml.specs.View.{view}
use Rattle.mm_problem.proofs.RowsIn.{next_row, next_fault, values_at}
use Rattle.mm_problem.proofs.rows.rows_of.Goals as goal

pub returns-in_err-row : goal.returns-in_err-row
returns-in_err-row g c =
    let p = err_from_is_err_and c.from_residual.result c.from_residual.ensures.1 in
    let here = values_at view c.args.values.now c.loop-value.value-index c.value-item.result
    (omega arith) c.value-item.is in
    rw (p.1, p.2) (λ other. c.loop-value.invariant.left
    ∙ next_fault _ _ _ _ _ here c.as_slice.result.now c.as_slice.ensures.value c.in_err-row.field-0.0
    (c.in_err-row.ensures other))

pub loop-value-preserved : goal.loop-value-preserved
loop-value-preserved g c =
    let here = values_at view c.args.values.now c.loop-value.value-index c.value-item.result
    (omega arith) c.value-item.is in
    record {
      count = omega (arith, c.in_ok-push.ensures.len);
      left = rw c.in_ok-push.ensures.items (c.loop-value.invariant.left
          ∙ next_row _ _ _ _ _ here c.as_slice.result.now c.as_slice.ensures.value c.in_ok-row.row c.in_ok-row.ensures);
    }
