-- What is left of a problem after a step, from what the stores of a memory hold.
use Rattle.std.specs.Prelude.{◌≡◌, ℕ, List, length, map}
use Rattle.std.specs.Option.{option_map_or}
use Rattle.mm_problem.specs.Dumping.{Dumping, row, stores}
use Rattle.mm_problem.specs.Rest.{rest_of}
use Rattle.mm_plan.specs.Least.{IsLeast}
use Rattle.mm_plan.specs.Sheet.{SheetRows}
use Rattle.mm_plan.specs.Table.{amount}
use Rattle.mm_plan.specs.Volumes.{loss}
use Rattle.mm_memory.specs.Holdings.{Holdings, state_of}
use Rattle.mm_planner.specs.PlanTexts.{PlansFor}

-- how many packets the store with this identifier holds; none where there is no such store
abbrev pub held_by : Holdings → List ℕ → ℕ
held_by memory id = option_map_or (λ state. length state.store.content) (state_of id memory) 0

-- how many packets each store of the problem holds
abbrev pub held_in : Dumping → Holdings → List ℕ
held_in q memory = map (λ s. held_by memory (row q s).id) (stores q)

-- the problem of the steps after this one, from what the stores hold
abbrev pub rest_in : Dumping → ℕ → Holdings → Dumping
rest_in q step memory = rest_of q step (held_in q memory)

-- the text says a plan that fits and loses least, and how much that is
pub record SaysLeast (q : Dumping) (text : List ℕ) : Type 0 where
  pub sheet : SheetRows
  pub plans : PlansFor q text sheet
  pub least : IsLeast q (amount sheet.plan)
  pub loses : loss q (amount sheet.plan) ≡ sheet.loss
