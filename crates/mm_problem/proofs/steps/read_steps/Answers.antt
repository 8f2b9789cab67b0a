use Rattle.std.proofs.Common.{sym, ap, ◌∙◌, arith}
use Rattle.std.proofs.lemmas.Result.{err_from_is_err_and}
use Rattle.csv.specs.Records.{fields_of}
use Rattle.mm_base.specs.Reading.{◌>>=◌}
use Rattle.mm_problem.specs.Forecast.{steps_in, no_steps, some_steps}
use Rattle.mm_problem.specs.StepLists.{columns_of, steps_of}
use Rattle.mm_problem.proofs.ForecastRows.{same_rows, no_row, row_fault, row_found}
use Rattle.mm_problem.proofs.steps.read_steps.Goals as goal

pub rows-init : goal.rows-init
rows-init c = record {
  most = omega (arith, c.new.ensures.len);
  limited = c.requires.limited;
  sized = c.requires.sized;
  rows = c.requires.reading.0;
  has = c.requires.reading.1;
  left = λ all has. rw (c.new.ensures.items, c.new-2.ensures.items, c.new-3.ensures.items, c.new-4.ensures.items)
      (ap (λ rows. steps_in c.args.stores (no_steps (columns_of c.args.columns)) rows >>= some_steps)
      (same_rows c.args.reader.now c.requires.reading.0 all c.requires.reading.1 has));
}

pub returns-in_err-next_step : goal.returns-in_err-next_step
returns-in_err-next_step c =
    let p = err_from_is_err_and c.from_residual-in_err-next_step.result c.from_residual-in_err-next_step.ensures.1 in
    rw (p.1, p.2) (λ all has other.
    sym (c.rows.invariant.left all has)
    ∙ row_fault c.rows.invariant.rows (fields_of c.next_record.new.row) c.next_record.new.reader c.args.stores
    (steps_of c.rows.steps)
    (rw c.if-branch.true at (c.in_ok-next_record.ensures.takes c.rows.invariant.rows c.rows.invariant.has))
    c.in_err-next_step.field-0.0 (c.in_err-next_step.ensures.step other))

pub rows-preserved : goal.rows-preserved
rows-preserved c =
    let found = row_found c.rows.invariant.rows (fields_of c.next_record.new.row) c.next_record.new.reader c.args.stores
    (steps_of c.rows.steps)
    (rw c.if-branch.true at (c.in_ok-next_record.ensures.takes c.rows.invariant.rows c.rows.invariant.has))
    (steps_of c.next_step.new.steps) c.in_ok-next_step.ensures.step in
    record {
      most = c.in_ok-next_step.ensures.most;
      limited = c.in_ok-next_step.ensures.limited;
      sized = c.in_ok-next_step.ensures.sized;
      rows = found.rows;
      has = found.has;
      left = λ all has. found.left ∙ c.rows.invariant.left all has;
    }

pub returns : goal.returns
returns c = λ all has.
    let ended = no_row c.rows.invariant.rows (fields_of c.next_record.new.row) c.next_record.new.reader c.args.stores
    (steps_of c.rows.steps)
    (rw c.if-branch.false at (c.in_ok-next_record.ensures.takes c.rows.invariant.rows c.rows.invariant.has)) in
    rw (sym (c.rows.invariant.left all has) ∙ ended) c.some_steps.ensures
