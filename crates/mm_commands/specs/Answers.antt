-- What answers a task, by what its files hold.
use Rattle.std.specs.Prelude.{◌≡◌, ◌≢◌, ◌++◌, ℕ, Bool, true, false, if◌then◌else◌, List, Option, Some, None, IfSome}
use Rattle.std.specs.Borrow.{Bor}
use Rattle.std.specs.Io.KnownBytes.{Appends}
use Rattle.mm_cut.specs.declared.verdict.Verdict.{Verdict}
use Rattle.mm_cut.specs.declared.verdict.Verdict.TheVariants.{Least, LeastInOrder}
use Rattle.mm_cut.specs.Checking.{Checks, LosesLeast, LosesLeastInOrder, SaysSheet}
use Rattle.mm_cut.specs.Lines.{line_of}
use Rattle.mm_problem.specs.Dumping.{Dumping}
use Rattle.mm_problem.specs.Setup.{SetupRows}
use Rattle.mm_problem.specs.Texts.{SaysProblem}
use Rattle.mm_plan.specs.Sheet.{SheetRows}
use Rattle.mm_plan.specs.Table.{amount}
use Rattle.mm_rest.specs.Rests.{IsKeptStep, IsRestScript}
use Rattle.mm_keep.specs.Keeps.{IsKeptSheet}
use Rattle.mm_chart.specs.Charts.{Charts}
use Rattle.mm_chart.specs.Table.{IsTableOf}
use Rattle.mm_planner.specs.PlanTexts.{IsInOrder, PlansLeast, PlansLeastInOrder}
use Rattle.mm_ask.specs.declared.answering.Outcome.{Outcome as Replied}
use Rattle.mm_ask.specs.declared.answering.Outcome.TheVariants as replied
use Rattle.mm_ask.specs.Asking.{Answers}
use Rattle.mm_ask.specs.Reads.{Reads}
use Rattle.mm_run.specs.declared.printed.Outcome.{Outcome as Ended}
use Rattle.mm_run.specs.declared.printed.Outcome.TheVariants as ended
use Rattle.mm_run.specs.declared.prepared.PreparedRun.{PreparedRun}
use Rattle.mm_run.specs.declared.printed.Printed.{Printed}
use Rattle.mm_planner.specs.declared.goal.Goal.{Goal}
use Rattle.mm_planner.specs.declared.goal.Goal.TheVariants as goal
use Rattle.mm_run.specs.Prepared.{IsPrepared}
use Rattle.mm_run.specs.Runs.{PrintsRun}
use Rattle.mm_sensitivity.specs.Charts.{ChartsWorth}
use Rattle.mm_sensitivity.specs.Table.{IsWorthTable}
use Rattle.mm_files.specs.Contents.{Contents, FilesView, IsStored, WereRead}
use Rattle.mm_commands.specs.Given.{IsGiven}
use Rattle.mm_commands.specs.Halts.{LeadsReport}
use Rattle.mm_commands.specs.Reading.{readings_of}
use Rattle.mm_commands.specs.Streams.{file_of}
use Rattle.mm_commands.specs.declared.status.Status.{Status}
use Rattle.mm_commands.specs.declared.status.Status.TheVariants.{Done, Refused}
use Rattle.mm_commands.specs.declared.answers.Answer.{Answer}
use Rattle.mm_commands.specs.declared.answers.Answer.TheVariants.{Text, Lines, Line}
use Rattle.mm_commands.specs.declared.texts.TaskTexts.{TaskTexts}
use Rattle.mm_command_line.specs.declared.task.FlightPlan.{FlightPlan}
use Rattle.mm_command_line.specs.declared.task.FlightPlan.TheVariants.{Given, Made}
use Rattle.mm_command_line.specs.Lines.{output_of}
use Rattle.mm_command_line.specs.Names.{names_in}
use Rattle.mm_command_line.specs.declared.task.FileNames.{FileNames}
use Rattle.mm_command_line.specs.declared.task.Task.{Task}
use Rattle.mm_command_line.specs.declared.task.Task.TheVariants.{Plan, Keep, Check, Chart, Table, Rest, Sensitivity, Fly}
use Rattle.mm_command_line.specs.declared.task.Task.TheVariants.{Ask, Read, Mission}

-- ---- `plan`

-- the text plans least, in the order of the stores where that is asked
abbrev pub PlansText : Bool → List ℕ → List ℕ → List ℕ → Type 0
PlansText true = PlansLeastInOrder
PlansText false = PlansLeast

-- ---- `plan --keep`

-- the text is that of a sheet, in printing order, whose plan keeps the steps of the plan that the texts say up to the
-- one that the word names, and loses least after it
pub record KeepsSteps (setup forecast plan word text : List ℕ) : Type 0 where
  pub problem : Dumping
  pub old : SheetRows
  pub step : ℕ
  pub new : SheetRows
  pub says_problem : SaysProblem setup forecast problem
  pub says_old : SaysSheet problem plan old
  pub kept : IsKeptStep problem word step
  pub says_new : SaysSheet problem text new
  pub in_order : IsInOrder new
  pub keeps : IsKeptSheet problem (amount old.plan) step new

-- ---- `chart`

-- the text is the chart of the plan, with what each window is worth where that is asked
abbrev pub DrawsPlan : Bool → List ℕ → List ℕ → List ℕ → List ℕ → Type 0
DrawsPlan true = ChartsWorth
DrawsPlan false = Charts

-- ---- `rest`

-- the text is the script of what is left after the step that the word names, of the plan that the texts say
pub record TellsRest (setup forecast plan word text : List ℕ) : Type 0 where
  pub rows : SetupRows
  pub problem : Dumping
  pub sheet : SheetRows
  pub step : ℕ
  pub given : IsGiven setup forecast rows problem
  pub says_sheet : SaysSheet problem plan sheet
  pub kept : IsKeptStep problem word step
  pub script : IsRestScript rows problem (amount sheet.plan) step text

-- ---- `check`

-- the status of a task that is answered by a verdict
abbrev pub status_of : Verdict → Status
status_of (Least n) = Done
status_of (LeastInOrder n) = Done
status_of verdict = Refused

-- the line is that of the verdict on the plan, which is `Least` only where no plan that fits loses fewer blocks, and
-- `LeastInOrder` only where none loses fewer of the first stores either
pub record Judges (status : Status) (line setup forecast plan : List ℕ) : Type 0 where
  pub verdict : Verdict
  pub checks : Checks setup forecast plan verdict
  pub least : (n : ℕ) → verdict ≡ Least n → LosesLeast setup forecast plan n
  pub in_order : (n : ℕ) → verdict ≡ LeastInOrder n → LosesLeastInOrder setup forecast plan n
  pub line_is : line ≡ line_of verdict
  pub status_is : status ≡ status_of verdict

-- ---- `ask`

-- the status of a task that is answered by lines with this outcome
abbrev pub status_of_replies : Replied → Status
status_of_replies replied.AllDone = Done
status_of_replies replied.SomeRefused = Refused

-- the text answers the requests
pub record Replies (status : Status) (text setup requests : List ℕ) : Type 0 where
  pub outcome : Replied
  pub answers : Answers setup requests outcome text
  pub status_is : status ≡ status_of_replies outcome

-- ---- `read`

-- the text says what the packets are
pub record Says (status : Status) (text packets : List ℕ) : Type 0 where
  pub outcome : Replied
  pub reads : Reads packets outcome text
  pub status_is : status ≡ status_of_replies outcome

-- ---- `run` and `fly`

-- the status of a run that ended so
abbrev pub status_of_run : Ended → Status
status_of_run ended.CarriedOut = Done
status_of_run ended.Unreported = Refused
status_of_run (ended.Stopped cause) = Refused

-- the text of the plan of a run, where it is given
abbrev pub given_plan : FlightPlan → TaskTexts → Option (List ℕ)
given_plan (Given name rest) texts = Some texts.plan.items
given_plan (Made in_order) texts = None

-- what the plan of a run is made for, where it is made
abbrev pub goal_of : FlightPlan → Goal
goal_of (Given name rest) = goal.Least
goal_of (Made in_order) = if in_order then goal.InOrder else goal.Least

-- what is printed of the run of the plan that is given, or of one that is made where none is
abbrev pub FliesTexts : FlightPlan → TaskTexts → Printed → Type 0
FliesTexts plan texts printed = PrintsRun (goal_of plan) (given_plan plan texts) texts.setup.items
    texts.forecast.items texts.sources.items texts.links.items printed

-- the run is that of the texts, of the plan that is given, or of one that is made where none is
abbrev pub PreparesTexts : FlightPlan → TaskTexts → PreparedRun → Type 0
PreparesTexts plan texts run = IsPrepared (goal_of plan) (given_plan plan texts) texts.setup.items
    texts.forecast.items texts.sources.items texts.links.items run

-- whether a script that plans what is left of a run is asked for
abbrev pub tells_rest : FlightPlan → Bool
tells_rest (Given name rest) = rest
tells_rest (Made in_order) = false

-- the text is what is printed of such a run, with its status: the plan text, where the plan was made here, what comes
-- before the report, the report, and the last line
pub record Flown (plan : FlightPlan) (texts : TaskTexts) (status : Status) (text : List ℕ) : Type 0 where
  pub printed : Printed
  pub flies : FliesTexts plan texts printed
  pub lead : List ℕ
  pub leads : LeadsReport (tells_rest plan) texts printed.left lead
  pub text_is : text ≡ printed.sheet.items ++ (lead ++ printed.report.items ++ printed.end.items)
  pub status_is : status ≡ status_of_run printed.outcome

-- a writer had the first of these bytes, and then the second: what is printed of such a run was written between
pub record PrintsFlown (plan : FlightPlan) (texts : TaskTexts) (status : Status)
    (before after : Option (List ℕ)) : Type 0 where
  pub text : List ℕ
  pub flown : Flown plan texts status text
  pub printed : Appends before after text

-- ---- all of them

-- the task, whose files have these texts, is done, or the answer says what is not well: this text answers it, and the
-- run of the program ends in this status. What answers a mission stands in Missions
abbrev pub AnswersTask : Task → TaskTexts → Status → List ℕ → Type 0
AnswersTask (Plan setup forecast in_order output) texts status text =
    (status ≡ Done) × PlansText in_order texts.setup.items texts.forecast.items text
AnswersTask (Keep kept output) texts status text =
    (status ≡ Done) × KeepsSteps texts.setup.items texts.forecast.items texts.plan.items kept.last.now text
AnswersTask (Check names) texts status text = Judges status text texts.setup.items texts.forecast.items texts.plan.items
AnswersTask (Chart names worth output) texts status text =
    (status ≡ Done) × DrawsPlan worth texts.setup.items texts.forecast.items texts.plan.items text
AnswersTask (Table names output) texts status text =
    (status ≡ Done) × IsTableOf texts.setup.items texts.forecast.items texts.plan.items text
AnswersTask (Rest kept output) texts status text =
    (status ≡ Done) × TellsRest texts.setup.items texts.forecast.items texts.plan.items kept.last.now text
AnswersTask (Sensitivity setup forecast output) texts status text =
    (status ≡ Done) × IsWorthTable texts.setup.items texts.forecast.items text
AnswersTask (Fly names) texts status text = Flown names.plan texts status text
AnswersTask (Ask setup requests) texts status text = Replies status text texts.setup.items texts.other.items
AnswersTask (Read packets) texts status text = Says status text texts.other.items
AnswersTask (Mission mission part output) texts status text = ⊥

-- the text of an answer
abbrev pub text_in : Answer → List ℕ
text_in (Text text output notes) = text.items
text_in (Lines replies) = replies.text.items
text_in (Line verdict line notes) = line.items

-- the status of a task with this answer
abbrev pub status_in : Answer → Status
status_in (Text text output notes) = Done
status_in (Lines replies) = status_of_replies replies.outcome
status_in (Line verdict line notes) = status_of verdict

-- the file that an answer goes into, where one is named
abbrev pub output_in : Answer → Option (Bor (List ℕ))
output_in (Text text output notes) = output
output_in answer = None

-- the answer is one to the task, whose files have these texts, and goes into its output
pub record IsAnswerTo (task : Task) (texts : TaskTexts) (answer : Answer) : Type 0 where
  pub answers : AnswersTask task texts (status_in answer) (text_in answer)
  pub output : output_in answer ≡ output_of task

-- the text was printed, and the files are as they were; or it was stored in the file of this name, and nothing was
-- printed
abbrev pub Gives : Option (Bor (List ℕ)) → List ℕ → Contents → Contents → Option (List ℕ) → Option (List ℕ) → Type 0
Gives (Some name) text old new before after = IsStored old new name.now text × (after ≡ before)
Gives None text old new before after = (new ≡ old) × Appends before after text

-- none of a task's files has this name
pub record AreOthers (names : FileNames) (name : List ℕ) : Type 0 where
  pub setup : IfSome names.setup (λ n. n.now ≢ name)
  pub forecast : IfSome names.forecast (λ n. n.now ≢ name)
  pub plan : IfSome names.plan (λ n. n.now ≢ name)
  pub sources : IfSome names.sources (λ n. n.now ≢ name)
  pub links : IfSome names.links (λ n. n.now ≢ name)
  pub other : IfSome names.other (λ n. n.now ≢ name)

-- the files and a writer had the first of these, and then the second: the task's files were read, what was stored or
-- written between answers the task by the bytes that came, and no file that the task reads has the name of the file
-- that was stored
pub record Prints (old new : FilesView) (task : Task) (status : Status) (before after : Option (List ℕ)) : Type 0 where
  pub texts : TaskTexts
  pub read : WereRead old.contents old.readings new.readings (readings_of (names_in task) texts)
  pub text : List ℕ
  pub answers : AnswersTask task texts status text
  pub given : Gives (file_of old.streams (output_of task)) text old.contents new.contents before after
  pub others : IfSome (file_of old.streams (output_of task)) (λ name. AreOthers (names_in task) name.now)

-- the task plans a mission
abbrev pub is_mission : Task → Bool
is_mission (Mission mission part output) = true
is_mission task = false

-- the task carries a plan out
abbrev pub is_run : Task → Bool
is_run (Fly names) = true
is_run task = false
