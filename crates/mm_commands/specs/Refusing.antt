-- Which faults a task is refused for.
use Rattle.std.specs.Prelude.{◌≡◌, ◌≢◌, ◌⊎◌, ℕ, List, [], ◌∷◌, ◌++◌, codes, Option}
use Rattle.std.specs.Io.KnownBytes.{Appends}
use Rattle.mm_base.specs.Characters.{line_feed}
use Rattle.mm_base.specs.declared.refusal.Refusal.TheVariants as refusal
use Rattle.mm_problem.specs.Dumping.{Dumping}
use Rattle.mm_problem.specs.Texts.{SaysProblem}
use Rattle.mm_plan.specs.Sheet.{SheetRows}
use Rattle.mm_rest.specs.Rests.{IsKeptStep}
use Rattle.mm_cut.specs.Checking.{IsFaultOf as IsCheckFault, SaysSheet}
use Rattle.mm_cut.specs.declared.fault.Fault.TheVariants as check
use Rattle.mm_planner.specs.PlanTexts.{IsPlanningFault}
use Rattle.mm_ask.specs.Asking.{IsSetupFault}
use Rattle.mm_run.specs.Ending.{refusal_text}
use Rattle.mm_run.specs.Judging.{IsFirstFault}
use Rattle.mm_run.specs.declared.fault.Fault.{Fault as FlightFault}
use Rattle.mm_run.specs.declared.fault.Fault.TheVariants as flight
use Rattle.mm_files.specs.Contents.{FilesView, WereRead}
use Rattle.mm_commands.specs.Reading.{IsUnread, listed, readings_of}
use Rattle.mm_files.specs.declared.files.ReadFault.{ReadFault}
use Rattle.mm_files.specs.declared.files.ReadFault.TheVariants as read
use Rattle.mm_commands.specs.declared.status.Status.{Status}
use Rattle.mm_commands.specs.declared.status.Status.TheVariants.{Refused}
use Rattle.mm_commands.specs.Answers.{Prints, given_plan}
use Rattle.mm_commands.specs.Missions.{IsMissionFault, IsTextFault, PrintsMission}
use Rattle.mm_commands.specs.Faults.{refused_line}
use Rattle.mm_files.specs.FileNames.{shown_name}
use Rattle.mm_commands.specs.declared.fault.Fault.{Fault}
use Rattle.mm_commands.specs.declared.fault.Fault.TheVariants.{NoMemory, Texts, Run, Setup, NoStepAfter}
use Rattle.mm_commands.specs.declared.fault.Fault.TheVariants as fault
use Rattle.mm_commands.specs.declared.texts.TaskTexts.{TaskTexts}
use Rattle.mm_command_line.specs.Names.{names_in}
use Rattle.mm_command_line.specs.declared.task.Task.{Task}
use Rattle.mm_command_line.specs.declared.task.KeptSteps.{KeptSteps}
use Rattle.mm_command_line.specs.declared.task.Task.TheVariants.{Plan, Keep, Check, Chart, Table, Rest, Sensitivity, Fly}
use Rattle.mm_command_line.specs.declared.task.Task.TheVariants.{Ask, Mission}

-- the names of a task's files
abbrev pub files_of : Task → List (List ℕ)
files_of task = listed (names_in task)

-- the first fault of the texts of a run whose plan is given, or made
abbrev pub IsFlightFault : Option (List ℕ) → TaskTexts → FlightFault → Type 0
IsFlightFault plan texts e =
    IsFirstFault plan texts.setup.items texts.forecast.items texts.sources.items texts.links.items e

-- the texts say a plan, and the word names no step of it after which another one comes
pub record HasNoStepAfter (setup forecast plan word : List ℕ) : Type 0 where
  pub problem : Dumping
  pub sheet : SheetRows
  pub says_problem : SaysProblem setup forecast problem
  pub says_sheet : SaysSheet problem plan sheet
  pub none : (n : ℕ) → IsKeptStep problem word n → ⊥

-- the first fault of the texts of a problem and a plan, or of the word for a step of it; out of memory may come at any
-- time
abbrev pub IsKeptFault : KeptSteps → TaskTexts → Fault → Type 0
IsKeptFault kept texts NoMemory = Unit {0}
IsKeptFault kept texts (Texts e) =
    e ≢ check.NoMemory → IsCheckFault texts.setup.items texts.forecast.items texts.plan.items e
IsKeptFault kept texts (NoStepAfter word steps) =
    HasNoStepAfter texts.setup.items texts.forecast.items texts.plan.items kept.last.now
IsKeptFault kept texts fault = ⊥

-- the task, whose files have these texts, cannot be done: this is their first fault; out of memory may come at any time
abbrev pub IsFaultIn : Task → TaskTexts → Fault → Type 0
IsFaultIn task texts NoMemory = Unit {0}
IsFaultIn (Plan setup forecast in_order output) texts (Texts e) =
    e ≢ check.NoMemory → IsPlanningFault texts.setup.items texts.forecast.items e
IsFaultIn (Keep kept output) texts fault = IsKeptFault kept texts fault
IsFaultIn (Check names) texts (Texts e) = e ≢ check.NoMemory
    → IsCheckFault texts.setup.items texts.forecast.items texts.plan.items e
IsFaultIn (Chart names worth output) texts (Texts e) =
    e ≢ check.NoMemory → IsCheckFault texts.setup.items texts.forecast.items texts.plan.items e
IsFaultIn (Table names output) texts (Texts e) =
    e ≢ check.NoMemory → IsCheckFault texts.setup.items texts.forecast.items texts.plan.items e
IsFaultIn (Rest kept output) texts fault = IsKeptFault kept texts fault
IsFaultIn (Sensitivity setup forecast output) texts (Texts e) =
    e ≢ check.NoMemory → IsPlanningFault texts.setup.items texts.forecast.items e
IsFaultIn (Fly names) texts (Run e) = e ≢ flight.NoMemory → IsFlightFault (given_plan names.plan texts) texts e
IsFaultIn (Ask setup requests) texts (Setup e) = IsSetupFault texts.setup.items e
IsFaultIn (Mission mission part output) texts (fault.Mission refusal) = IsTextFault texts.other.items refusal
IsFaultIn task texts fault = ⊥

-- the task's files were read, and this is the first fault of the bytes that came
pub record IsFaultRead (old new : FilesView) (task : Task) (fault : Fault) : Type 0 where
  pub texts : TaskTexts
  pub read : WereRead old.contents old.readings new.readings (readings_of (names_in task) texts)
  pub is : IsFaultIn task texts fault

-- a writer had the first of these bytes, and then the second: what was written between says why the task is refused, by
-- the files that were read, and the files are as they were
pub record Refuses (old new : FilesView) (task : Task) (status : Status) (before after : Option (List ℕ)) : Type 0 where
  pub fault : Fault
  pub is : IsUnread old.contents old.readings new.readings (files_of task) fault
      ⊎ IsFaultRead old new task fault ⊎ IsMissionFault old new task fault
  pub printed : Appends before after (refused_line fault)
  pub status_is : status ≡ Refused
  pub kept : new.contents ≡ old.contents

-- the task was done, or a mission was planned
abbrev pub Completes : FilesView → FilesView → Task → Status → Option (List ℕ) → Option (List ℕ) → Type 0
Completes old new task status before after = Prints old new task status before after
    ⊎ PrintsMission old new task status before after

-- the task was done or refused
abbrev pub Settles : FilesView → FilesView → Task → Status → Option (List ℕ) → Option (List ℕ) → Type 0
Settles old new task status before after = Completes old new task status before after
    ⊎ Refuses old new task status before after

-- the line that says why the program's own input was not read
abbrev pub refused_input : ReadFault → List ℕ
refused_input read.NoMemory = codes "refused " ++ refusal_text refusal.NoMemory ++ line_feed ∷ []
refused_input (read.NotRead obstacle) = codes "refused " ++ refusal_text refusal.NotRead ++ codes " name "
    ++ shown_name (codes "-") ++ line_feed ∷ []
