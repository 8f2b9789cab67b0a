use Rattle.std.proofs.Common.{◌≡◌, [], take, drop}
use Rattle.mm_problem.specs.Data.{rows_fit}
use Rattle.mm_problem.proofs.data.test_rows.Given as goal

abbrev pub invariant-loop-place : goal.invariant-loop-place
invariant-loop-place g l = rows_fit g.R.Tested.fits (take l.place l.rows) (drop l.place l.rows) ≡ rows_fit g.R.Tested.fits [] l.rows
