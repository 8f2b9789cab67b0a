use Rattle.std.proofs.Common.{◌≡◌, ◌+◌, drop}
use Rattle.csv.specs.Records.{fields_of}
use Rattle.mm_problem.specs.Forecast.{limit_count}
use Rattle.mm_problem.proofs.columns.limits_end.Given as goal

abbrev pub invariant-loop-i : goal.invariant-loop-i
invariant-loop-i l = l.i + limit_count (drop l.i (fields_of l.row))
    ≡ l.first + limit_count (drop l.first (fields_of l.row))
