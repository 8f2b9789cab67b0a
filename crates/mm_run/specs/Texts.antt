-- What the texts of a run say.
use Rattle.std.specs.Prelude.{◌≡◌, ◌⊎◌, ℕ, List, Ok, Err, Option, Some, None}
use Rattle.mm_problem.specs.Document.{setup_of}
use Rattle.mm_run.specs.Types.{Dumping, SpacePacket, SheetRows, Holdings, ScriptFault, SourceLine, ScriptedSource}
use Rattle.mm_run.specs.Types.{ScriptedLink}
use Rattle.mm_problem.specs.Forecast.{problem_of}
use Rattle.mm_problem.specs.Setup.{SetupRows}
use Rattle.mm_problem.specs.declared.fault.Fault.{Fault as ProblemFault}
use Rattle.mm_problem.specs.declared.fault.Fault.TheVariants as problem
use Rattle.mm_problem.specs.Texts.{problem_in}
use Rattle.mm_plan.specs.declared.fault.Fault.{Fault as PlanFault}
use Rattle.mm_cut.specs.Checking.{SaysSheet, IsPlanFault}
use Rattle.mm_memory.specs.Holdings.{memory_of}
use Rattle.mm_run.specs.Links.{linked_of, SaysLinks}
use Rattle.mm_run.specs.Sources.{source_lines_of, Says}
use Rattle.mm_run.specs.declared.script_fault.ScriptFault.TheVariants as script

-- the setup and the forecast say this problem, and this memory is the setup's
pub record SaysProblemAndMemory (setup forecast : List ℕ) (problem : Dumping) (memory : Holdings) : Type 0 where
  pub rows : SetupRows
  pub setup_says : setup_of setup ≡ Ok rows
  pub forecast_says : problem_of rows forecast ≡ Ok problem
  pub memory_is : memory ≡ memory_of rows

-- the plan text says this sheet for the problem; where there is no plan text, there is no sheet
abbrev pub SaysPlan : Dumping → Option (List ℕ) → Option SheetRows → Type 0
SaysPlan problem (Some text) (Some sheet) = SaysSheet problem text sheet
SaysPlan problem None None = Unit {0}
SaysPlan problem text sheet = ⊥

-- the setup, the forecast and the plan text, where there is one, say this problem, this memory and this sheet
pub record SaysStart (plan : Option (List ℕ)) (setup forecast : List ℕ) (problem : Dumping) (memory : Holdings)
    (sheet : Option SheetRows) : Type 0 where
  pub problem_says : SaysProblemAndMemory setup forecast problem memory
  pub plan_says : SaysPlan problem plan sheet

-- the sources and the links say these packets of step 0, these sources and these links
pub record SaysSourcesAndLinks (sources_text links_text : List ℕ) (opening : List SpacePacket)
    (sources : List ScriptedSource) (links : List ScriptedLink) : Type 0 where
  pub sources_say : Says sources_text opening sources
  pub links_say : SaysLinks links_text links

-- the first fault of the sources and then of the links; out of memory is not one of them
abbrev pub IsScriptFault : List ℕ → List ℕ → ScriptFault → Type 0
IsScriptFault sources links script.NoMemory = ⊥
IsScriptFault sources links e = (source_lines_of sources ≡ Err e)
    ⊎ ((source_lines : List SourceLine) × (source_lines_of sources ≡ Ok source_lines) × (linked_of links ≡ Err e))

-- the first fault of the setup and then of the forecast; out of memory is not one of them
abbrev pub IsProblemFault : List ℕ → List ℕ → ProblemFault → Type 0
IsProblemFault setup forecast problem.NoMemory = ⊥
IsProblemFault setup forecast e = problem_in setup forecast ≡ Err e

-- the first fault of the plan text, and then of its shape; where there is no plan text, there is none
abbrev pub IsPlanTextFault : Dumping → Option (List ℕ) → PlanFault → Type 0
IsPlanTextFault problem (Some text) e = IsPlanFault problem text e
IsPlanTextFault problem None e = ⊥
