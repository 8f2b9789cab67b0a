-- What a run of the program has done.
use Rattle.std.specs.Prelude.{◌≡◌, ◌⊎◌, ◌==◌, ℕ, Bool, true, false, List, [], ◌∷◌, Option}
use Rattle.std.specs.List.{slice_split}
use Rattle.std.specs.Str.{IsUtf8}
use Rattle.std.specs.Io.KnownBytes.{Appends}
use Rattle.mm_base.specs.Characters.{space}
use Rattle.mm_files.specs.Contents.{FilesView}
use Rattle.mm_files.specs.Scripts.{IsFirstLine, script_view}
use Rattle.mm_files.specs.declared.files.ReadFault.TheVariants.{NoMemory}
use Rattle.mm_commands.specs.declared.status.Status.{Status}
use Rattle.mm_commands.specs.declared.status.Status.TheVariants.{Done, Refused, BadCommandLine}
use Rattle.mm_command_line.specs.Lines.{IsTaskLine, Spells, is_version_line}
use Rattle.mm_command_line.specs.declared.version.TheConstants.{VERSION}
use Rattle.mm_command_line.specs.declared.task.Task.{Task}
use Rattle.mm_commands.specs.Refusing.{Completes, Settles, refused_input}
use Rattle.mm_commands.specs.Streams.{ReadsTwice, reads_twice}

-- the words of a line, separated by single spaces; an empty line has none
abbrev pub words_in : List ℕ → List (List ℕ)
words_in [] = []
words_in (octet ∷ rest) = slice_split (λ o. o == space) (octet ∷ rest)

-- the task that the words ask for, which has standard input for one file at most, was done or refused
pub record DoesTask (old new : FilesView) (words : List (List ℕ)) (status : Status) (before after : Option (List ℕ)) :
    Type 0 where
  pub task : Task
  pub asked : Spells words task
  pub once : reads_twice old.streams task ≡ false
  pub told : Settles old new task status before after

-- there was no memory to read the words
pub record WantsMemory (status : Status) (before after : Option (List ℕ)) : Type 0 where
  pub told : Appends before after (refused_input NoMemory)
  pub status_is : status ≡ Refused

-- the words ask for the version, which was printed
pub record TellsVersion (words : List (List ℕ)) (before after : Option (List ℕ)) : Type 0 where
  pub asked : is_version_line words ≡ true
  pub printed : Appends before after VERSION.now

-- the words spell no task, or one that has standard input for more than one file, and do not ask for the version; only
-- standard error says so
pub record IsBadLine (streams : Bool) (words : List (List ℕ)) (status : Status) (before after : Option (List ℕ)) : Type
    0 where
  pub no_task : (IsTaskLine words → ⊥) ⊎ ReadsTwice streams words
  pub no_version : is_version_line words ≡ false
  pub untold : after ≡ before
  pub status_is : status ≡ BadCommandLine

-- what became of the words of a command line
abbrev pub Does : FilesView → FilesView → List (List ℕ) → Status → Option (List ℕ) → Option (List ℕ) → Type 0
Does old new words status before after = DoesTask old new words status before after
    ⊎ ((new ≡ old) × (WantsMemory status before after ⊎ IsBadLine old.streams words status before after
    ⊎ (TellsVersion words before after × (status ≡ Done))))

-- the task that the words ask for was done: what was stored or written between answers it
pub record IsDone (old new : FilesView) (words : List (List ℕ)) (before after : Option (List ℕ)) : Type 0 where
  pub task : Task
  pub asked : Spells words task
  pub prints : Completes old new task Done before after

-- what the words ask for was done: their task, or the version was told
abbrev pub AreDone : FilesView → FilesView → List (List ℕ) → Option (List ℕ) → Option (List ℕ) → Type 0
AreDone old new words before after = IsDone old new words before after ⊎ TellsVersion words before after

-- what the first line of a script asks for was done over the files that follow
pub record DoesScript (script : List ℕ) (before after : Option (List ℕ)) : Type 0 where
  pub line : List ℕ
  pub files : List ℕ
  pub split : IsFirstLine script line files
  pub left : FilesView
  pub done : AreDone (script_view files) left (words_in line) before after

-- the first line of a script spells a task
pub record IsTaskScript (script : List ℕ) : Type 0 where
  pub line : List ℕ
  pub files : List ℕ
  pub split : IsFirstLine script line files
  pub text : IsUtf8 line
  pub task : IsTaskLine (words_in line)
