-- What an exit status says of the words of a command line.
use Rattle.std.proofs.Common.{◌≡◌, ◌≢◌, ◌≤◌, ◌⊎◌, ℕ, Bool, true, false, List, Option, Result, Ok, Err, IfOk, IfErr, inl}
use Rattle.std.proofs.Common.{inr, refl, ap, arith}
use Rattle.mm_commands.specs.Statuses.{exit_code}
use Rattle.mm_commands.specs.declared.status.Status.{Status}
use Rattle.mm_commands.specs.declared.status.Status.TheVariants.{Done, Refused, BadCommandLine}
use Rattle.mm_files.specs.Contents.{Contents, FilesView}
use Rattle.mm_commands.specs.declared.texts.TaskTexts.{TaskTexts}
use Rattle.mm_commands.specs.Answers.{AnswersTask, Gives}
use Rattle.mm_commands.specs.Refusing.{Completes, Refuses}
use Rattle.mm_commands.specs.Streams.{ReadsTwice, file_of, reads_twice}
use Rattle.mm_commands.specs.Doing.{AreDone, Does, DoesTask, IsDone}
use Rattle.mm_command_line.specs.Lines.{Spells, is_version_line, output_of}
use Rattle.mm_command_line.specs.declared.task.Task.{Task}
use Rattle.mm_command_line.specs.declared.task.Task.TheVariants.{Plan, Keep, Check, Chart, Table, Rest, Sensitivity, Fly}
use Rattle.mm_command_line.specs.declared.task.Task.TheVariants.{Ask, Read, Mission}

-- a task that the words ask for was done or refused
pub task-does : {E : Type 0} (old new : FilesView) (words : List (List ℕ)) (task : Task)
    (before after : Option (List ℕ)) (r : Result Status E) → Spells words task
    → reads_twice old.streams task ≡ false → IfOk r (λ status. Completes old new task status before after
    ⊎ Refuses old new task status before after) → IfOk r (λ status. Does old new words status before after)
task-does old new words task before after (Ok status) asked once told = inl
    (record { task = task; asked = asked; once = once; told = told })
task-does old new words task before after (Err e) asked once told = tt

-- a task that has standard input for more than one file is a bad command line
pub twice-does : {E : Type 0} (old : FilesView) (words : List (List ℕ)) (task : Task) (before : Option (List ℕ))
    (r : Result Status E) → Spells words task → reads_twice old.streams task ≡ true → is_version_line words ≡ false
    → IfOk r (λ status. status ≡ BadCommandLine) → IfOk r (λ status. Does old old words status before before)
twice-does old words task before (Ok status) asked twice other bad = inr (
  refl,
  inr (inl (record {
    no_task = inr (record { task = task; asked = asked; twice = twice });
    no_version = other;
    untold = refl;
    status_is = bad;
  })),
)
twice-does old words task before (Err e) asked twice other bad = tt

-- words that do not have standard input for two files spell no task that has
pub twice-taken : {E : Type 0} (streams : Bool) (words : List (List ℕ)) (task : Task) (r : Result Status E)
    → (ReadsTwice streams words → ⊥) → Spells words task → reads_twice streams task ≡ true
    → IfOk r (λ status. status ≢ BadCommandLine)
twice-taken streams words task r once asked twice = absurd (once (record { task = task; asked = asked; twice = twice }))

-- without streams no words have standard input for two files
pub no_streams : (words : List (List ℕ)) → ReadsTwice false words → ⊥
no_streams words twice = absurd (let is = twice.twice in cc)

-- a task with the status `Done` was done, and not refused
task-done : (old new : FilesView) (words : List (List ℕ)) (before after : Option (List ℕ))
    → DoesTask old new words Done before after → IsDone old new words before after
task-done old new words before after task = elim task.told [
  | inl prints ↦ record { task = task.task; asked = task.asked; prints = prints }
  | inr refuses ↦ absurd (let is = refuses.status_is in cc)
]

-- words with the status `Done` had their task done, or the version told
does-done : (old new : FilesView) (words : List (List ℕ)) (before after : Option (List ℕ))
    → Does old new words Done before after → AreDone old new words before after
does-done old new words before after (inl task) = inl (task-done old new words before after task)
does-done old new words before after (inr (kept, inl wants)) = absurd (let is = wants.status_is in cc)
does-done old new words before after (inr (kept, inr (inl bad))) = absurd (let is = bad.status_is in cc)
does-done old new words before after (inr (kept, inr (inr tells))) = inr tells.0

-- a run that ends with 0 has done the task
pub code-done : {E : Type 0} (old new : FilesView) (words : List (List ℕ)) (before after : Option (List ℕ))
    (r : Result Status E) (code : ℕ) → IfOk r (λ status. code ≡ exit_code status) → IfErr r (λ e. code ≡ 1)
    → IfOk r (λ status. Does old new words status before after)
    → code ≡ 0 → AreDone old new words before after
code-done old new words before after (Ok Done) code is failed does zero = does-done old new words before after does
code-done old new words before after (Ok Refused) code is failed does zero = absurd (omega (arith, is, zero))
code-done old new words before after (Ok BadCommandLine) code is failed does zero = absurd (omega (arith, is, zero))
code-done old new words before after (Err e) code is failed does zero = absurd (omega (arith, failed, zero))

-- an answer that tells a refusal is no text for a file
refused-kept : (streams : Bool) (old new : Contents) (task : Task) (texts : TaskTexts) (status : Status) (text : List ℕ)
    (before after : Option (List ℕ)) → status ≢ Done
    → AnswersTask task texts status text → Gives (file_of streams (output_of task)) text old new before after → new
    ≡ old
refused-kept streams old new (Plan setup forecast in_order output) texts status text before after other answers given =
    absurd (other answers.0)
refused-kept streams old new (Keep kept output) texts status text before after other answers given = absurd
    (other answers.0)
refused-kept streams old new (Check names) texts status text before after other answers given = given.0
refused-kept streams old new (Chart names worth output) texts status text before after other answers given = absurd
    (other answers.0)
refused-kept streams old new (Table names output) texts status text before after other answers given = absurd
    (other answers.0)
refused-kept streams old new (Rest kept output) texts status text before after other answers given = absurd
    (other answers.0)
refused-kept streams old new (Sensitivity setup forecast output) texts status text before after other answers given =
    absurd (other answers.0)
refused-kept streams old new (Fly names) texts status text before after other answers given = given.0
refused-kept streams old new (Ask setup requests) texts status text before after other answers given = given.0
refused-kept streams old new (Read packets) texts status text before after other answers given = given.0
refused-kept streams old new (Mission mission part output) texts status text before after other answers given =
    absurd answers

-- a task that was settled, and not done, leaves the files as they were
settled-kept : (old new : FilesView) (task : Task) (status : Status) (before after : Option (List ℕ))
    → status ≢ Done → Completes old new task status before after ⊎ Refuses old new task status before after
    → new.contents ≡ old.contents
settled-kept old new task status before after other (inl (inl prints)) =
    refused-kept old.streams old.contents new.contents task prints.texts status prints.text before after other
    prints.answers prints.given
settled-kept old new task status before after other (inl (inr planned)) = absurd (other planned.status_is)
settled-kept old new task status before after other (inr refuses) = refuses.kept

-- a task that is not done leaves the files as they were
does-kept : (old new : FilesView) (words : List (List ℕ)) (status : Status) (before after : Option (List ℕ))
    → status ≢ Done → Does old new words status before after → new.contents ≡ old.contents
does-kept old new words status before after other (inr rest) = ap (λ (view : FilesView). view.contents) rest.0
does-kept old new words status before after other (inl task) =
    settled-kept old new task.task status before after other task.told

-- a run of the program that does not end with 0 leaves the files as they were
pub code-kept : {E : Type 0} (old new : FilesView) (words : List (List ℕ)) (before after : Option (List ℕ))
    (r : Result Status E) (code : ℕ)
    → IfOk r (λ status. code ≡ exit_code status) → IfErr r (λ e. new.contents ≡ old.contents)
    → IfOk r (λ status. Does old new words status before after) → code ≢ 0 → new.contents ≡ old.contents
code-kept old new words before after (Ok Done) code is failed does other = absurd (other is)
code-kept old new words before after (Ok Refused) code is failed does other = does-kept old new words Refused before
    after (λ same. absurd cc) does
code-kept old new words before after (Ok BadCommandLine) code is failed does other = does-kept old new words
    BadCommandLine before after (λ same. absurd cc) does
code-kept old new words before after (Err e) code is failed does other = failed

-- words that spell a task end with 0 or 1
pub code-taken : {E : Type 0} (r : Result Status E) (code : ℕ)
    → IfOk r (λ status. code ≡ exit_code status) → IfErr r (λ e. code ≡ 1) → IfOk r (λ status. status ≢ BadCommandLine)
    → code ≤ 1
code-taken (Ok Done) code is failed well = omega (arith, is)
code-taken (Ok Refused) code is failed well = omega (arith, is)
code-taken (Ok BadCommandLine) code is failed well = absurd (well refl)
code-taken (Err e) code is failed well = omega (arith, failed)
