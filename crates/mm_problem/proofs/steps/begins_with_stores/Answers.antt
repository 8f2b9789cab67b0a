use Rattle.std.proofs.Common.{sym, arith}
use Rattle.csv.specs.Records.{fields_of}
use Rattle.mm_problem.specs.Forecast.{header_of}
use Rattle.mm_problem.proofs.HeaderLaws.{header_length}
use Rattle.mm_problem.proofs.ForecastCells.{too_few}
use Rattle.mm_problem.proofs.steps.begins_with_stores.Goals as goal

pub returns-then-len-stores : goal.returns-then-len-stores
returns-then-len-stores c = sym (too_few (fields_of c.args.row.now) (header_of c.args.stores.now) (omega (
  arith,
  header_length c.args.stores.now,
)))
