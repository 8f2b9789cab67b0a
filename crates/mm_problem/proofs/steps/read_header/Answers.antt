use Rattle.std.proofs.Common.{sym, subst}
use Rattle.csv.specs.Records.{fields_of}
use Rattle.mm_base.specs.Reading.{Gives}
use Rattle.mm_problem.specs.declared.fault.Fault.TheVariants.{NoMemory}
use Rattle.mm_problem.specs.StepLists.{columns_of}
use Rattle.mm_problem.proofs.ForecastRows.{no_header, header_at, later_rows, on_ok}
use Rattle.mm_problem.proofs.steps.read_header.Goals as goal

pub returns-then-not-branch : goal.returns-then-not-branch
returns-then-not-branch c = record {
  header = λ rows has _. no_header c.args.stores.now rows (fields_of c.next_record.new.row) c.next_record.new.reader
      (rw c.if-not-branch.true at (c.in_ok-next_record.ensures.takes rows has));
  few_limits = tt;
  few_sizes = tt;
  later = tt;
}

pub returns-clause-header : goal.returns-clause-header
returns-clause-header c = λ rows has.
    let took = rw c.if-not-branch.false at (c.in_ok-next_record.ensures.takes rows has) in
    let is = header_at c.args.stores.now rows (fields_of c.next_record.new.row) c.next_record.new.reader took in
    subst (Gives NoMemory columns_of c.columns_in.result) (sym is) c.columns_in.ensures.columns

pub returns-clause-later : goal.returns-clause-later
returns-clause-later c = on_ok c.columns_in.result (λ rows has.
    let took = rw c.if-not-branch.false at (c.in_ok-next_record.ensures.takes rows has) in
    later_rows rows (fields_of c.next_record.new.row) c.next_record.new.reader took)
