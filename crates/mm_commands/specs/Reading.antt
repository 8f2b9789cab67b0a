-- Which files of a task were read, and where reading stopped.
use Rattle.std.specs.Prelude.{◌≡◌, ℕ, List, [], ◌∷◌, ◌++◌, map, Option, Some, None}
use Rattle.std.specs.Borrow.{Bor}
use Rattle.mm_files.specs.Contents.{Contents, MayBeUnread, Reading, WereRead, reading}
use Rattle.mm_commands.specs.declared.fault.Fault.{Fault}
use Rattle.mm_commands.specs.declared.fault.Fault.TheVariants.{NoMemory, NotRead}
use Rattle.mm_commands.specs.declared.texts.TaskTexts.{TaskTexts}
use Rattle.mm_command_line.specs.declared.task.FileNames.{FileNames}

-- the name of a file, where one is named
abbrev pub name_of : Option (Bor (List ℕ)) → List (List ℕ)
name_of (Some name) = name.now ∷ []
name_of None = []

-- the names of a task's files, in the order of its words
abbrev pub listed : FileNames → List (List ℕ)
listed names = (name_of names.setup ++ name_of names.forecast) ++ ((name_of names.plan ++ name_of names.sources)
    ++ (name_of names.links ++ name_of names.other))

-- the file was read where one is named, and had these bytes
abbrev pub reading_of : Option (Bor (List ℕ)) → List ℕ → List Reading
reading_of (Some name) octets = reading name.now octets ∷ []
reading_of None octets = []

-- the files of these names were read in that order, and had these texts
abbrev pub readings_of : FileNames → TaskTexts → List Reading
readings_of names texts = (reading_of names.setup texts.setup.items ++ reading_of names.forecast texts.forecast.items)
    ++ ((reading_of names.plan texts.plan.items ++ reading_of names.sources texts.sources.items)
    ++ (reading_of names.links texts.links.items ++ reading_of names.other texts.other.items))

-- the next of the files that are left was not read; out of memory may come at any time
abbrev pub StopsAt : Contents → List (List ℕ) → Fault → Type 0
StopsAt contents left NoMemory = Unit {0}
StopsAt contents (next ∷ left) (NotRead name obstacle) = (next ≡ name.now) × MayBeUnread (contents next)
StopsAt contents left fault = ⊥

-- the first of these files were read, and the others are left since this fault came
pub record IsUnread (contents : Contents) (before after : Option (List Reading)) (names : List (List ℕ))
    (fault : Fault) : Type 0 where
  pub readings : List Reading
  pub left : List (List ℕ)
  pub read : WereRead contents before after readings
  pub split : names ≡ map (λ r. r.name) readings ++ left
  pub stopped : StopsAt contents left fault
