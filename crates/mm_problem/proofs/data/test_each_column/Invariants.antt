use Rattle.std.proofs.Common.{◌≡◌, [], take, drop}
use Rattle.mm_problem.specs.Data.{rows_fit, column_fits}
use Rattle.mm_problem.proofs.data.test_each_column.Given as goal

abbrev pub invariant-loop-place : goal.invariant-loop-place
invariant-loop-place l =
    rows_fit (column_fits l.count) (take l.place l.columns) (drop l.place l.columns)
    ≡ rows_fit (column_fits l.count) [] l.columns
