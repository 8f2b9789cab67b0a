use Rattle.std.proofs.Common.{◌∙◌, arith}
use Rattle.std.proofs.lemmas.List.{drop_all}
use Rattle.std.proofs.lemmas.Result.{err_from_is_err_and}
use Rattle.csv.specs.Records.{fields_of}
use Rattle.mm_mission_text.proofs.AllIn.{all_none, all_next, all_fault}
use Rattle.mm_mission_text.proofs.RowsLeft.{cells_left}
use Rattle.mm_mission_text.proofs.header.columns_in.Goals as goal

pub returns-in_err-column : goal.returns-in_err-column
returns-in_err-column c =
    let p = err_from_is_err_and c.from_residual.result c.from_residual.ensures.1 in
    let here = cells_left (fields_of c.args.names.now) c.loop-i.i c.cell_of.result.now (omega arith)
    c.cell_of.ensures in
    rw (p.1, p.2) (λ other. c.loop-i.invariant
    ∙ all_fault _ _ _ _ _ here c.as_slice.result.now c.as_slice.ensures.value c.in_err-column.field-0.0
    (c.in_err-column.ensures other))

pub loop-i-preserved : goal.loop-i-preserved
loop-i-preserved c =
    let here = cells_left (fields_of c.args.names.now) c.loop-i.i c.cell_of.result.now (omega arith)
    c.cell_of.ensures in
    rw c.in_ok-push.ensures.items (c.loop-i.invariant
    ∙ all_next _ _ _ _ _ here c.as_slice.result.now c.as_slice.ensures.value c.in_ok-column.column
    c.in_ok-column.ensures)

pub returns : goal.returns
returns c = c.loop-i.invariant ∙ all_none _ _ _ (drop_all c.loop-i.i (fields_of c.args.names.now) (omega arith))
