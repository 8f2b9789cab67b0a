use Rattle.std.proofs.Common.{◌∙◌, arith, refl}
use Rattle.std.proofs.lemmas.List.{drop_all, drop_more}
use Rattle.std.proofs.lemmas.Result.{err_from_is_err_and}
use Rattle.csv.specs.Records.{fields_of}
use Rattle.mm_mission_text.proofs.AllIn.{all_none, all_next, all_fault}
use Rattle.mm_mission_text.proofs.value.cells_with.Goals as goal

pub returns-in_err-cell : goal.returns-in_err-cell
returns-in_err-cell c =
    let p = err_from_is_err_and c.from_residual.result c.from_residual.ensures.1 in
    rw (p.1, p.2) (λ other. c.loop-column.invariant.left
    ∙ all_fault _ _ _ _ _ (drop_more c.args.columns.now c.loop-column.column-index _ (omega arith))
    (fields_of c.loop-column.cells) refl c.in_err-cell.field-0.0 (c.in_err-cell.ensures other))

pub loop-column-preserved : goal.loop-column-preserved
loop-column-preserved c = record {
  ended = c.in_ok-push_field.ensures.partial;
  left = rw (c.in_ok-push_field.ensures.fields, c.loop-column.invariant.ended, c.as_bytes.ensures.value) (c.loop-column.invariant.left
      ∙ all_next _ _ _ _ _ (drop_more c.args.columns.now c.loop-column.column-index _ (omega arith))
      (fields_of c.loop-column.cells) refl _ c.in_ok-cell.ensures);
}

pub returns : goal.returns
returns c =
    c.loop-column.invariant.left
    ∙ all_none _ _ _ (drop_all c.loop-column.column-index c.args.columns.now (omega arith))
