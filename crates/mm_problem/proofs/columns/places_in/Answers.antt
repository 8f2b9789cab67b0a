use Rattle.std.proofs.Common.{[], sym, ap, ◌∙◌, arith}
use Rattle.std.proofs.lemmas.List.{drop_more, drop_all}
use Rattle.std.proofs.lemmas.Result.{err_from_is_err_and}
use Rattle.csv.specs.Records.{fields_of}
use Rattle.mm_problem.specs.Forecast.{next_sized}
use Rattle.mm_problem.proofs.RowsIn.{no_row, next_row, next_fault}
use Rattle.mm_problem.proofs.columns.places_in.Goals as goal

pub returns-in_err-place : goal.returns-in_err-place
returns-in_err-place c =
    let p = err_from_is_err_and c.from_residual.result c.from_residual.ensures.1 in
    let here = drop_more (fields_of c.args.row.now) c.loop-i.i [] (omega arith) in
    record {
      places = rw (p.1, p.2) (λ other. sym c.loop-i.invariant.same
          ∙ next_fault _ _ _ _ _ here c.as_slice.result.now c.as_slice.ensures.value c.in_err-place.field-0.0
          (ap (next_sized c.args.stores.now c.as_slice.result.now) (sym c.cell_of.ensures)
          ∙ c.in_err-place.ensures other));
      each = rw (p.1) tt;
    }

pub loop-i-preserved : goal.loop-i-preserved
loop-i-preserved c =
    let here = drop_more (fields_of c.args.row.now) c.loop-i.i [] (omega arith) in
    let given = ap (next_sized c.args.stores.now c.as_slice.result.now) (sym c.cell_of.ensures)
    ∙ c.in_ok-place.ensures in
    record {
      same = rw c.in_ok-push.ensures.items (
          sym (next_row _ _ _ _ _ here c.as_slice.result.now c.as_slice.ensures.value c.in_ok-place.place given)
          ∙ c.loop-i.invariant.same);
      each = omega (arith, c.in_ok-push.ensures.len, c.loop-i.invariant.each);
    }

pub returns : goal.returns
returns c = record {
  places = sym c.loop-i.invariant.same ∙ no_row (next_sized c.args.stores.now) c.loop-i.places.items _
      (drop_all c.loop-i.i (fields_of c.args.row.now) (omega arith));
  each = omega (arith, c.loop-i.invariant.each);
}
