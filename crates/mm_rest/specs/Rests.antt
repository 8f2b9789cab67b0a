-- What is left of a problem after a step of a plan.
use Rattle.std.specs.Prelude.{◌≡◌, ℕ, ◌<◌, ◌≤◌, ◌++◌, List, codes, length, map, Ok}
use Rattle.mm_base.specs.Numbers.{numeral_of}
use Rattle.mm_base.specs.declared.limits.TheConstants.{MAX_STEPS}
use Rattle.mm_base.specs.declared.numbers.Numeral.TheVariants.{Number}
use Rattle.mm_problem.specs.declared.come.Arrivals.{Arrivals}
use Rattle.mm_problem.specs.Document.{setup_of}
use Rattle.mm_problem.specs.Dumping.{Dumping, stores}
use Rattle.mm_problem.specs.Rest.{rest_of, rows_from}
use Rattle.mm_problem.specs.Setup.{SetupRows}
use Rattle.mm_problem.specs.Texts.{SaysProblem}
use Rattle.mm_plan.specs.Volumes.{Amounts, left}

-- what each store holds as the step ends
abbrev pub held_after : Dumping → Amounts → ℕ → List ℕ
held_after q x n = map (λ s. left q x s n) (stores q)

-- the problem of the steps after this one, where each store begins with what it holds as this one ends
abbrev pub rest_after : Dumping → Amounts → ℕ → Dumping
rest_after q x n = rest_of q n (held_after q x n)

-- the rows of a setup with other start volumes, and arrivals that come then
abbrev pub setup_from : SetupRows → Arrivals → List ℕ → SetupRows
setup_from m come starts = record {
  stores = rows_from m.stores starts;
  routes = m.routes;
  limits = m.limits;
  come = come;
}

-- the rows of a setup with the stores of a problem, and arrivals that come as those of the problem
abbrev pub setup_for : SetupRows → Dumping → SetupRows
setup_for m q = record { stores = q.rows; routes = m.routes; limits = m.limits; come = q.come }

-- the word names a step of the problem after which another one comes
pub record IsKeptStep (q : Dumping) (word : List ℕ) (n : ℕ) : Type 0 where
  pub number : numeral_of MAX_STEPS word ≡ Number n
  pub first : 1 ≤ n
  pub before_last : n < length q.windows

-- the lines that plan a setup and a forecast, which stand below them
abbrev pub plan_script : List ℕ → List ℕ → List ℕ
plan_script setup forecast =
    codes "plan setup.toml forecast.csv\n=== setup.toml\n" ++ setup ++ codes "=== forecast.csv\n" ++ forecast

-- the text is the script of a setup and a forecast that say what is left after the step; the setup keeps its routes and
-- its limits
pub record IsRestScript (m : SetupRows) (q : Dumping) (x : Amounts) (n : ℕ) (text : List ℕ) : Type 0 where
  pub setup : List ℕ
  pub forecast : List ℕ
  pub says_problem : SaysProblem setup forecast (rest_after q x n)
  pub says_setup : setup_of setup ≡ Ok (setup_from m q.come (held_after q x n))
  pub text_is : text ≡ plan_script setup forecast
