-- What the setup and the forecast of a task say.
use Rattle.std.specs.Prelude.{◌≡◌, ℕ, List, Ok}
use Rattle.mm_problem.specs.Document.{setup_of}
use Rattle.mm_problem.specs.Dumping.{Dumping}
use Rattle.mm_problem.specs.Forecast.{limits_of}
use Rattle.mm_problem.specs.Setup.{SetupRows}
use Rattle.mm_problem.specs.Texts.{SaysProblem}

-- the texts say this setup, and a problem with its stores and its limits, whose arrivals come when the setup says
pub record IsGiven (setup forecast : List ℕ) (m : SetupRows) (q : Dumping) : Type 0 where
  pub says_setup : setup_of setup ≡ Ok m
  pub says_problem : SaysProblem setup forecast q
  pub stores : q.rows ≡ m.stores
  pub limits : q.limits ≡ limits_of m.limits
  pub come : q.come ≡ m.come
