-- Which fault of the texts is told: the first, in the order setup, forecast, plan text, its shape, sources, links.
use Rattle.std.specs.Prelude.{ℕ, List, Option, Some, None}
use Rattle.mm_run.specs.Types.{Dumping, SheetRows, Holdings, ScriptFault}
use Rattle.mm_plan.specs.declared.fault.Fault.{Fault as PlanFault}
use Rattle.mm_run.specs.declared.fault.Fault.{Fault}
use Rattle.mm_run.specs.declared.fault.Fault.TheVariants.{NoMemory, Problem, Plan, Script}
use Rattle.mm_run.specs.Texts.{SaysProblemAndMemory, SaysStart, IsProblemFault, IsPlanTextFault, IsScriptFault}

-- the plan text has the fault, and the setup and the forecast have none
pub record IsPlanRefused (plan : Option (List ℕ)) (setup forecast : List ℕ) (e : PlanFault) : Type 0 where
  pub problem : Dumping
  pub memory : Holdings
  pub problem_says : SaysProblemAndMemory setup forecast problem memory
  pub fault : IsPlanTextFault problem plan e

-- the sources or the links have the fault, and the setup, the forecast and the plan text, where there is one, have none
pub record IsScriptRefused (plan : Option (List ℕ)) (setup forecast sources links : List ℕ)
    (e : ScriptFault) : Type 0 where
  pub problem : Dumping
  pub memory : Holdings
  pub sheet : Option SheetRows
  pub start_says : SaysStart plan setup forecast problem memory sheet
  pub fault : IsScriptFault sources links e

-- the first fault of the texts of a run, with a plan text or without one; out of memory is not one of them
abbrev pub IsFirstFault : Option (List ℕ) → List ℕ → List ℕ → List ℕ → List ℕ → Fault → Type 0
IsFirstFault plan setup forecast sources links NoMemory = ⊥
IsFirstFault plan setup forecast sources links (Problem e) = IsProblemFault setup forecast e
IsFirstFault plan setup forecast sources links (Plan e) = IsPlanRefused plan setup forecast e
IsFirstFault plan setup forecast sources links (Script e) = IsScriptRefused plan setup forecast sources links e

-- the first fault of the texts of a run; out of memory is not one of them
abbrev pub IsRunFault : List ℕ → List ℕ → List ℕ → List ℕ → List ℕ → Fault → Type 0
IsRunFault setup forecast plan sources links e = IsFirstFault (Some plan) setup forecast sources links e

-- the first fault of the texts of a run whose plan is made; out of memory is not one of them
abbrev pub IsFlyFault : List ℕ → List ℕ → List ℕ → List ℕ → Fault → Type 0
IsFlyFault setup forecast sources links e = IsFirstFault None setup forecast sources links e
