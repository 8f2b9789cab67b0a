-- What comes before the report of a run that a link halted.
use Rattle.std.specs.Prelude.{◌≡◌, ◌⊎◌, ◌++◌, ℕ, Bool, true, List, [], codes, map, slice_get, Option, Some}
use Rattle.std.specs.List.{filter_map}
use Rattle.std.specs.Option.{option_map, option_map_or}
use Rattle.mm_problem.specs.Dumping.{Dumping, stores}
use Rattle.mm_problem.specs.Setup.{SetupRows}
use Rattle.mm_report.specs.declared.cause.Cause.TheVariants.{LinkFailed}
use Rattle.mm_rest.specs.Halts.{IsHaltScript}
use Rattle.mm_rest.specs.declared.halt.HaltedStep.{HaltedStep}
use Rattle.mm_run.specs.StoppedRun.{dumped_at, volume_of}
use Rattle.mm_run.specs.declared.stopped_run.StoppedRun.{StoppedRun}
use Rattle.mm_commands.specs.Given.{IsGiven}
use Rattle.mm_commands.specs.declared.texts.TaskTexts.{TaskTexts}

-- how many packets the store at a place holds; none where there is no such store
abbrev pub held_at : ℕ → StoppedRun → ℕ
held_at place run = option_map_or (λ v. v.blocks) (option_map volume_of (slice_get run.memory.stores place)) 0

-- what the run left of the step in which it was halted: what each store of the problem holds, what was spent of the
-- window, what each store dumped, and the stores of the packets that links did not take
pub record IsHaltedStep (q : Dumping) (run : StoppedRun) (halted : HaltedStep) : Type 0 where
  pub held : halted.held.items ≡ map (λ s. held_at s run) (stores q)
  pub spent : halted.spent ≡ run.halted.spent
  pub dumped : halted.dumped.items ≡ map (λ s. dumped_at s run) (stores q)
  pub broken : halted.broken.items
      ≡ filter_map (λ l. option_map (λ f. f.store) l.last_failure) run.halted.links.items

-- the script says what is left of the problem, in a step of which the run was halted
pub record SaysHalt (m : SetupRows) (q : Dumping) (step : ℕ) (run : StoppedRun) (script : List ℕ) : Type 0 where
  pub halted : HaltedStep
  pub is : IsHaltedStep q run halted
  pub says : IsHaltScript m q step halted script

-- a link halted the run in a step, and the script says what is left of the problem of the texts
pub record TellsHalt (texts : TaskTexts) (run : StoppedRun) (script : List ℕ) : Type 0 where
  pub rows : SetupRows
  pub problem : Dumping
  pub step : ℕ
  pub given : IsGiven texts.setup.items texts.forecast.items rows problem
  pub cause : run.halted.cause ≡ LinkFailed step
  pub says : SaysHalt rows problem step run script

-- a line after which the report stands as the last file of the script
abbrev pub report_line : List ℕ
report_line = codes "=== report.txt\n"

-- the script of what is left, and that line
pub record LeadsWhole (texts : TaskTexts) (run : StoppedRun) (lead : List ℕ) : Type 0 where
  pub script : List ℕ
  pub tells : TellsHalt texts run script
  pub lead_is : lead ≡ script ++ report_line

-- what comes before the report of a run that did not end: the script of what is left, if a link halted the run and
-- there is memory for it; otherwise nothing
abbrev pub LeadsHalt : TaskTexts → StoppedRun → List ℕ → Type 0
LeadsHalt texts run lead = (lead ≡ []) ⊎ LeadsWhole texts run lead

-- the same of any run, if it is asked for; otherwise nothing
abbrev pub LeadsReport : Bool → TaskTexts → Option StoppedRun → List ℕ → Type 0
LeadsReport true texts (Some run) lead = LeadsHalt texts run lead
LeadsReport asked texts left lead = lead ≡ []
