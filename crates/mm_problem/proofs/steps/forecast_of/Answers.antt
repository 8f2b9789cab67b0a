use Rattle.std.proofs.Common.{drop, refl}
use Rattle.std.proofs.lemmas.Result.{err_from_is_err_and}
use Rattle.mm_problem.specs.Records.{records_of}
use Rattle.mm_problem.proofs.ForecastRows.{forecast_parts}
use Rattle.mm_problem.proofs.steps.forecast_of.Goals as goal

pub returns-in_err-columns : goal.returns-in_err-columns
returns-in_err-columns c =
    let p = err_from_is_err_and c.from_residual.result c.from_residual.ensures.1 in
    rw (p.1, p.2) (λ other.
    let refused = c.in_err-columns.ensures.header (records_of c.args.text.now) c.reader_of-reader.ensures other in
    rw (forecast_parts c.args.stores.now (records_of c.args.text.now), refused) refl)

pub read_steps-requires-clause-reading : goal.read_steps-requires-clause-reading
read_steps-requires-clause-reading c = (
  drop 1 (records_of c.args.text.now),
  c.in_ok-columns.ensures.later (records_of c.args.text.now) c.reader_of-reader.ensures,
)

pub returns : goal.returns
returns c =
    let rows = records_of c.args.text.now in
    let found = c.in_ok-columns.ensures.header rows c.reader_of-reader.ensures in
    rw (forecast_parts c.args.stores.now rows, found) (c.read_steps.ensures (drop 1 rows)
    (c.in_ok-columns.ensures.later rows c.reader_of-reader.ensures))
