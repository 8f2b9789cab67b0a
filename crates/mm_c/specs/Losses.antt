-- What is told of the losses of the stores in a plan.
use Rattle.std.specs.Prelude.{◌≡◌, ◌-◌, ◌++◌}
use Rattle.mm_c.specs.Words.{ℕ, List, length, map, sum, replicate, Reason}
use Rattle.mm_base.specs.declared.limits.TheConstants.{MAX_STORES}
use Rattle.mm_problem.specs.Dumping.{Dumping, stores}
use Rattle.mm_plan.specs.Table.{amount}
use Rattle.mm_plan.specs.Volumes.{Amounts, store_loss}
use Rattle.mm_planner.specs.PlanTexts.{PlansLeast}
use Rattle.mm_c.specs.Telling.{IsWhyUnplanned}

-- what each store loses in a plan, in the order of the setup, and 0 at the places past the stores
abbrev pub losses_in : Dumping → Amounts → List ℕ
losses_in q x = map (store_loss q x) (stores q) ++ replicate (MAX_STORES - length q.rows) 0

-- what is told where there is no plan
abbrev pub no_losses : List ℕ
no_losses = replicate MAX_STORES 0

-- the text says a plan that loses least, and the losses are those of the stores in that plan: their sum is the loss
-- that the text says
pub record PlansWithLosses (setup forecast losses text : List ℕ) : Type 0 where
  pub plans : PlansLeast setup forecast text
  pub each : losses ≡ losses_in plans.problem (amount plans.sheet.plan)
  pub all : sum losses ≡ plans.sheet.loss

-- no loss is told, for this reason: the first fault of the setup and the forecast
abbrev pub LeavesUnplanned : List ℕ → List ℕ → List ℕ → Reason → Type 0
LeavesUnplanned setup forecast losses reason = IsWhyUnplanned setup forecast reason × (losses ≡ no_losses)
