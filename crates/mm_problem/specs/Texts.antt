-- The problem of the texts of a setup and a forecast.
use Rattle.std.specs.Prelude.{◌≡◌, ℕ, List, Result, Ok}
use Rattle.mm_base.specs.Reading.{◌>>=◌}
use Rattle.mm_problem.specs.declared.fault.Fault.{Fault as ProblemFault}
use Rattle.mm_problem.specs.Document.{setup_of}
use Rattle.mm_problem.specs.Forecast.{problem_of}
use Rattle.mm_problem.specs.Dumping.{Dumping}

-- the problem of a setup and a forecast, or their first fault
unfoldable pub problem_in : List ℕ → List ℕ → Result Dumping ProblemFault
problem_in setup forecast = do
  rows ← setup_of setup
  problem_of rows forecast

-- the setup and the forecast are those of this problem
abbrev pub SaysProblem : List ℕ → List ℕ → Dumping → Type 0
SaysProblem setup forecast q = problem_in setup forecast ≡ Ok q
