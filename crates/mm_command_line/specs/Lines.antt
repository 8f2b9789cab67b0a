-- The words that ask for a task.
use Rattle.std.specs.Prelude.{◌≡◌, ◌++◌, ℕ, List, [], ◌∷◌, Option, Some, None, codes, drop, nat_eq, true, false}
use Rattle.std.specs.Prelude.{bytes_eq, if◌then◌else◌, Bool, ◌||◌, fold, length, map}
use Rattle.std.specs.List.{All, list_any, starts_with}
use Rattle.std.specs.Borrow.{Bor}
use Rattle.mm_command_line.specs.declared.options.Line.{Line}
use Rattle.mm_command_line.specs.declared.options.Next.{Next}
use Rattle.mm_command_line.specs.declared.options.Next.TheVariants.{Command, Any, Output, KeptPlan, KeptStep, File}
use Rattle.mm_command_line.specs.declared.task.FlightPlan.{FlightPlan}
use Rattle.mm_command_line.specs.declared.task.FlightPlan.TheVariants.{Given, Made}
use Rattle.mm_command_line.specs.declared.task.KeptSteps.{KeptSteps}
use Rattle.mm_command_line.specs.declared.task.PlanFiles.{PlanFiles}
use Rattle.mm_command_line.specs.declared.task.Task.{Task}
use Rattle.mm_command_line.specs.declared.task.Task.TheVariants.{Plan, Keep, Check, Chart, Table, Rest, Sensitivity}
use Rattle.mm_command_line.specs.declared.task.Task.TheVariants.{Fly, Ask, Read, Mission}
use Rattle.mm_command_line.specs.declared.task.MissionPart.{MissionPart}
use Rattle.mm_command_line.specs.declared.task.MissionPart.TheVariants as part

-- the names of the files of a judged plan
abbrev pub plan_names : PlanFiles → List (List ℕ)
plan_names files = files.setup.now ∷ files.forecast.now ∷ files.plan.now ∷ []

-- the words for the first steps of a plan
abbrev pub kept_names : KeptSteps → List (List ℕ)
kept_names kept =
    kept.files.setup.now ∷ kept.files.forecast.now ∷ kept.files.plan.now ∷ kept.last.now ∷ []

-- the words of a run: with the file of a plan, or with none
abbrev pub flight_spelling : List ℕ → List ℕ → List ℕ → List ℕ → FlightPlan → List (List ℕ)
flight_spelling setup forecast sources links (Given plan rest) =
    codes "run" ∷ setup ∷ forecast ∷ plan.now ∷ sources ∷ links ∷ []
flight_spelling setup forecast sources links (Made in_order) =
    codes "fly" ∷ setup ∷ forecast ∷ sources ∷ links ∷ []

-- the words of `plan`
abbrev pub plan_words : List ℕ → List ℕ → List (List ℕ)
plan_words setup forecast = codes "plan" ∷ setup ∷ forecast ∷ []

-- the words of a task without its flags and its output: its command, and the names of its files
abbrev pub command_words : Task → List (List ℕ)
command_words (Plan setup forecast in_order output) = plan_words setup.now forecast.now
command_words (Keep kept output) = plan_words kept.files.setup.now kept.files.forecast.now
command_words (Check files) = codes "check" ∷ plan_names files
command_words (Chart files worth output) = codes "chart" ∷ plan_names files
command_words (Table files output) = codes "table" ∷ plan_names files
command_words (Rest kept output) = codes "rest" ∷ kept_names kept
command_words (Sensitivity setup forecast output) = codes "sensitivity" ∷ setup.now ∷ forecast.now ∷ []
command_words (Fly f) = flight_spelling f.setup.now f.forecast.now f.sources.now f.links.now f.plan
command_words (Ask setup requests) = codes "ask" ∷ setup.now ∷ requests.now ∷ []
command_words (Read packets) = codes "read" ∷ packets.now ∷ []
command_words (Mission mission part output) = codes "mission" ∷ mission.now ∷ []

-- the file that the text of a task goes into, where one is named
abbrev pub output_of : Task → Option (Bor (List ℕ))
output_of (Plan setup forecast in_order output) = output
output_of (Keep kept output) = output
output_of (Chart files worth output) = output
output_of (Table files output) = output
output_of (Rest kept output) = output
output_of (Sensitivity setup forecast output) = output
output_of (Mission mission part output) = output
output_of task = None

-- the flag of `plan` and `fly`: the stores are served in the setup's order
abbrev pub order_flag : List ℕ
order_flag = codes "--in-order"

-- the flag of `chart`: the chart says what each window is worth
abbrev pub worth_flag : List ℕ
worth_flag = codes "--worth"

-- the flag of `run`: where a link halts the run, the script that plans the rest comes before the report
abbrev pub rest_flag : List ℕ
rest_flag = codes "--rest"

-- the flags of `mission`: the setup, the forecast, the plan text or the timeline is printed in place of the sheet
abbrev pub setup_flag : List ℕ
setup_flag = codes "--setup"

abbrev pub forecast_flag : List ℕ
forecast_flag = codes "--forecast"

abbrev pub plan_flag : List ℕ
plan_flag = codes "--plan"

abbrev pub timeline_flag : List ℕ
timeline_flag = codes "--timeline"

-- the flag that asks for this part of a planned mission; the sheet has none
abbrev pub part_flags : MissionPart → List (List ℕ)
part_flags part.Sheet = []
part_flags part.Setup = setup_flag ∷ []
part_flags part.Forecast = forecast_flag ∷ []
part_flags part.Plan = plan_flag ∷ []
part_flags part.Timeline = timeline_flag ∷ []

-- the flag of `plan`: the first steps of a plan are kept
abbrev pub keep_flag : List ℕ
keep_flag = codes "--keep"

-- the flag with the file of the plan and the last of these steps
abbrev pub keep_words : List ℕ → List ℕ → List (List ℕ)
keep_words plan last = keep_flag ∷ plan ∷ last ∷ []

-- a flag that is given, or none
abbrev pub flags_if : Bool → List ℕ → List (List ℕ)
flags_if given flag = if given then flag ∷ [] else []

-- the flag of a run: the rest of a plan that is given may be told, and a plan that is made may serve the stores in order
abbrev pub flight_flags : FlightPlan → List (List ℕ)
flight_flags (Given plan rest) = flags_if rest rest_flag
flight_flags (Made in_order) = flags_if in_order order_flag

-- the flag of a task, where it has one, with the words that follow it
abbrev pub flag_of : Task → List (List ℕ)
flag_of (Plan setup forecast in_order output) = flags_if in_order order_flag
flag_of (Keep kept output) = keep_words kept.files.plan.now kept.last.now
flag_of (Chart files worth output) = flags_if worth worth_flag
flag_of (Fly f) = flight_flags f.plan
flag_of (Mission mission part output) = part_flags part
flag_of task = []

-- the word is no flag: it begins with `-` only if it is `-` alone
abbrev pub IsFileName : List ℕ → Type 0
IsFileName word = starts_with nat_eq word (codes "-") ≡ true → word ≡ codes "-"

-- no word that follows the flag of a task is spelled like a flag
abbrev pub HasNames : Task → Type 0
HasNames (Keep kept output) = IsFileName kept.files.plan.now × IsFileName kept.last.now
HasNames task = Unit {0}

-- the words are those of a task without its flags and its output, and none of the files that they name is spelled like a
-- flag
pub record IsCommandLine (words : List (List ℕ)) : Type 0 where
  pub task : Task
  pub spelled : command_words task ≡ words
  pub names : All IsFileName (drop 1 words)

-- the name of an output
abbrev pub output_names : Option (Bor (List ℕ)) → List (List ℕ)
output_names (Some name) = name.now ∷ []
output_names None = []

-- the words without the first `--`, which only says that no flag follows
abbrev pub without_dashes : List (List ℕ) → List (List ℕ)
without_dashes [] = []
without_dashes (word ∷ rest) = if bytes_eq word (codes "--") then rest else word ∷ without_dashes rest

-- the words before it
abbrev pub before_dashes : List (List ℕ) → List (List ℕ)
before_dashes [] = []
before_dashes (word ∷ rest) = if bytes_eq word (codes "--") then [] else word ∷ before_dashes rest

-- the word is `--`
abbrev pub is_dashes : List ℕ → Bool
is_dashes word = bytes_eq word (codes "--")

-- the line is the words without the first `--`, and no word before that is spelled like a flag
pub record ArePlain (words line : List (List ℕ)) : Type 0 where
  pub same : line ≡ without_dashes words
  pub names : All IsFileName (before_dashes words)

-- ---- a line, of which options are taken out

-- the words of a line by what they are: those of its command, with the first `--`, its flags, with the words that
-- follow one of them, and the names of its outputs; and what may come next
pub record Parts : Type 0 where
  pub command : List (List ℕ)
  pub flags : List (List ℕ)
  pub outputs : List (List ℕ)
  pub next : Next

abbrev pub parts_in : Line → Parts
parts_in line = record {
  command = map (λ word. word.now) line.command.items;
  flags = map (λ word. word.now) line.flags.items;
  outputs = map (λ word. word.now) line.outputs.items;
  next = line.next;
}

-- before the first word
abbrev pub no_parts : Parts
no_parts = record { command = []; flags = []; outputs = []; next = Command }

-- with a word more of the command
abbrev pub with_word : Parts → List ℕ → Parts
with_word line word = record line { command = line.command ++ word ∷ [] }

-- with a flag more
abbrev pub with_flag : Parts → List ℕ → Parts
with_flag line flag = record line { flags = line.flags ++ flag ∷ [] }

-- with an output more of this name
abbrev pub with_output : Parts → List ℕ → Parts
with_output line name = record line { outputs = line.outputs ++ name ∷ [] }

-- the word before the name of an output
abbrev pub output_flag : List ℕ
output_flag = codes "--output"

-- what a word with the name of an output begins with
abbrev pub output_prefix : List ℕ
output_prefix = codes "--output="

-- the word asks for a part of a planned mission
abbrev pub is_part_flag : List ℕ → Bool
is_part_flag word = bytes_eq word setup_flag || bytes_eq word forecast_flag || bytes_eq word plan_flag
    || bytes_eq word timeline_flag

-- the word is the flag of a command
abbrev pub is_task_flag : List ℕ → Bool
is_task_flag word = bytes_eq word order_flag || bytes_eq word worth_flag || bytes_eq word rest_flag || is_part_flag word

-- the name in such a word
abbrev pub joined_name : List ℕ → Option (List ℕ)
joined_name word = if starts_with nat_eq word output_prefix then Some (drop (length output_prefix) word) else None

-- a word more, which may have the name of an output in it
abbrev pub with_joined : Parts → List ℕ → Option (List ℕ) → Parts
with_joined line word (Some name) = with_output line name
with_joined line word None = with_word line word

-- a word more, which may be an option
abbrev pub with_option : Parts → List ℕ → Parts
with_option line word =
    if is_task_flag word then with_flag line word
    else if bytes_eq word keep_flag then record (with_flag line word) { next = KeptPlan }
    else if bytes_eq word output_flag then record line { next = Output }
    else with_joined line word (joined_name word)

-- a word more, by what may come next: after the command an option may, and after `--` nothing but names
abbrev pub read_at : Next → Parts → List ℕ → Parts
read_at Command line word = record (with_word line word) { next = if is_dashes word then File else Any }
read_at Any line word = if is_dashes word then record (with_word line word) { next = File } else with_option line word
read_at Output line word = record (with_output line word) { next = Any }
read_at KeptPlan line word = record (with_flag line word) { next = KeptStep }
read_at KeptStep line word = record (with_flag line word) { next = Any }
read_at File line word = with_word line word

abbrev pub read_word : Parts → List ℕ → Parts
read_word line word = read_at line.next line word

-- the words of a line by what they are
abbrev pub parts_of : List (List ℕ) → Parts
parts_of words = fold read_word no_parts words

-- the name of an output, or a word that follows a flag, is still to come
abbrev pub awaits_name : Next → Bool
awaits_name Output = true
awaits_name KeptPlan = true
awaits_name KeptStep = true
awaits_name next = false

-- these are the names of the output, if one is named, and it is not spelled like a flag
pub record IsOutput (names : List (List ℕ)) (output : Option (Bor (List ℕ))) : Type 0 where
  pub same : names ≡ output_names output
  pub name : All IsFileName names

-- the options of the line are those of the task
pub record HasOptions (line : Parts) (task : Task) : Type 0 where
  pub flags : line.flags ≡ flag_of task
  pub names : HasNames task
  pub output : IsOutput line.outputs (output_of task)
  pub whole : awaits_name line.next ≡ false

-- the words ask for the task: they are its command, the names of its files in order, and its options, wherever these
-- stand after the command; before a `--`, no file is spelled like a flag
pub record Spells (words : List (List ℕ)) (task : Task) : Type 0 where
  pub command : ArePlain (parts_of words).command (command_words task)
  pub options : HasOptions (parts_of words) task

-- the words ask for a task, and there is no `--` among them
pub record IsTaskLine (words : List (List ℕ)) : Type 0 where
  pub task : Task
  pub spelled : Spells words task
  pub undashed : list_any is_dashes (parts_of words).command ≡ false

-- the word asks for the version: `--version` or `-V`
abbrev pub is_version_word : List ℕ → Bool
is_version_word word = bytes_eq word (codes "--version") || bytes_eq word (codes "-V")

-- the words are one that asks for the version
abbrev pub is_version_line : List (List ℕ) → Bool
is_version_line [] = false
is_version_line (word ∷ []) = is_version_word word
is_version_line (word ∷ next ∷ rest) = false
