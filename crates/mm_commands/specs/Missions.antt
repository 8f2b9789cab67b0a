-- A mission: the tables that it names, what is printed of it, and why it is refused.
use Rattle.std.specs.Prelude.{◌≡◌, ◌≢◌, ◌⊎◌, ◌++◌, ◌==◌, ℕ, Bool, if◌then◌else◌, List, [], ◌∷◌, codes, map, nat_eq, All}
use Rattle.std.specs.Prelude.{Option, Some, None, IfSome, option_map, Ok, Err}
use Rattle.std.specs.Borrow.{Bor}
use Rattle.std.specs.List.{list_any, starts_with}
use Rattle.mm_base.specs.declared.refusal.Refusal.{Refusal}
use Rattle.mm_mission_text.specs.Cells.{told_as}
use Rattle.mm_mission_text.specs.Missions.{mission_in}
use Rattle.mm_mission_text.specs.declared.document.MissionText.{MissionText}
use Rattle.mm_mission_plan.specs.Faults.{refusal_of, text_fault}
use Rattle.mm_mission_plan.specs.Plans.{IsFaultOf, PlansMission}
use Rattle.mm_mission_plan.specs.Rows.{TableTexts}
use Rattle.mm_mission_plan.specs.declared.fault.Fault as plan
use Rattle.mm_mission_plan.specs.declared.fault.Fault.TheVariants as of_plan
use Rattle.mm_mission_plan.specs.declared.plan.PlannedMission.{PlannedMission}
use Rattle.mm_files.specs.Contents.{Contents, FilesView, Reading, WereRead, reading}
use Rattle.mm_command_line.specs.declared.task.MissionPart.{MissionPart}
use Rattle.mm_command_line.specs.declared.task.MissionPart.TheVariants as part
use Rattle.mm_command_line.specs.declared.task.Task.{Task}
use Rattle.mm_command_line.specs.declared.task.Task.TheVariants.{Mission}
use Rattle.mm_commands.specs.Answers.{Gives}
use Rattle.mm_commands.specs.Reading.{StopsAt}
use Rattle.mm_commands.specs.Streams.{file_of}
use Rattle.mm_commands.specs.declared.fault.Fault.{Fault}
use Rattle.mm_commands.specs.declared.fault.Fault.TheVariants as fault
use Rattle.mm_commands.specs.declared.status.Status.{Status}
use Rattle.mm_commands.specs.declared.status.Status.TheVariants.{Done}
use Rattle.mm_commands.specs.declared.tables.MissionTables.{MissionTables}

-- ---- the tables that a mission names

-- the octet is `/`
abbrev pub is_slash : ℕ → Bool
is_slash octet = octet == 47

-- the folder of a file: its name up to and with the last `/`; a name without one has none
unfoldable pub folder_of : List ℕ → List ℕ
folder_of [] = []
folder_of (octet ∷ rest) = if list_any is_slash (octet ∷ rest) then octet ∷ folder_of rest else []

-- the name of a table's file: in the folder of the mission, unless what the mission says begins with `/`
abbrev pub beside : List ℕ → List ℕ → List ℕ
beside mission table = if starts_with nat_eq table (codes "/") then table else folder_of mission ++ table

-- the name of a table's file, if the mission names one
abbrev pub name_beside : List ℕ → Option (List ℕ) → List (List ℕ)
name_beside mission (Some table) = beside mission table ∷ []
name_beside mission None = []

-- those of all tables, in the order in which they are read
abbrev pub names_beside : List ℕ → MissionText → List (List ℕ)
names_beside mission said =
    (name_beside mission said.stores.file ++ name_beside mission said.stations.file)
    ++ (name_beside mission said.passes.file ++ name_beside mission said.observations.file)

-- the file of a table was read, if the mission names one, and had these bytes
abbrev pub read_beside : List ℕ → Option (List ℕ) → List ℕ → List Reading
read_beside mission (Some table) octets = reading (beside mission table) octets ∷ []
read_beside mission None octets = []

-- those of all tables were read in this order, each under its own name, and had these texts
abbrev pub readings_beside : List ℕ → MissionText → MissionTables → List Reading
readings_beside mission said texts =
    (read_beside mission said.stores.file texts.stores.items
    ++ read_beside mission said.stations.file texts.stations.items)
    ++ (read_beside mission said.passes.file texts.passes.items
    ++ read_beside mission said.observations.file texts.observations.items)

-- the text of a table, if the mission names one
abbrev pub text_if : Option (List ℕ) → List ℕ → Option (List ℕ)
text_if file octets = option_map (λ _. octets) file

-- the texts of the tables that the mission names
abbrev pub tables_of : MissionText → MissionTables → TableTexts
tables_of said texts = record {
  stores = text_if said.stores.file texts.stores.items;
  stations = text_if said.stations.file texts.stations.items;
  passes = text_if said.passes.file texts.passes.items;
  observations = text_if said.observations.file texts.observations.items;
}

-- the mission of this name was read and says this, and then its tables were read, and have these texts
pub record ReadsMission (contents : Contents) (before after : Option (List Reading)) (name : List ℕ)
    (said : MissionText) (texts : MissionTables) : Type 0 where
  pub text : List ℕ
  pub says : mission_in text ≡ Ok said
  pub read : WereRead contents before after (reading name text ∷ readings_beside name said texts)

-- ---- what is printed of it

-- the text of a part of a planned mission
abbrev pub part_text : MissionPart → PlannedMission → List ℕ
part_text part.Sheet planned = planned.sheet.items
part_text part.Setup planned = planned.setup.items
part_text part.Forecast planned = planned.forecast.items
part_text part.Plan planned = planned.plan.items
part_text part.Timeline planned = planned.timeline.items

-- neither the mission nor a table that it names has this name
abbrev pub IsApart : List ℕ → MissionText → List ℕ → Type 0
IsApart mission said name = All (λ read. read ≢ name) (mission ∷ names_beside mission said)

-- the files and a writer had the first of these, and then the second: the task is a mission, which was read with its
-- tables, and the part that is asked of its plan was stored or written between; no file that was read has the name of
-- the file that was stored
pub record PrintsMission (old new : FilesView) (task : Task) (status : Status) (before after : Option (List ℕ))
    : Type 0 where
  pub name : Bor (List ℕ)
  pub part : MissionPart
  pub output : Option (Bor (List ℕ))
  pub asked : task ≡ Mission name part output
  pub said : MissionText
  pub texts : MissionTables
  pub read : ReadsMission old.contents old.readings new.readings name.now said texts
  pub planned : PlannedMission
  pub plans : PlansMission said (tables_of said texts) planned
  pub given : Gives (file_of old.streams output) (part_text part planned) old.contents new.contents before after
  pub apart : IfSome (file_of old.streams output) (λ other. IsApart name.now said other.now)
  pub status_is : status ≡ Done

-- ---- why it is refused

-- what is told of a fault
abbrev pub told_fault : plan.Fault → Fault
told_fault of_plan.NoMemory = fault.NoMemory
told_fault e = fault.Mission (refusal_of e)

-- the refusal of the first fault of a mission's text
abbrev pub IsTextFault : List ℕ → Refusal → Type 0
IsTextFault text refusal = (e : plan.Fault) × (told_as text_fault (mission_in text) ≡ Err e) × (refusal ≡ refusal_of e)

-- the first fault of a mission and its tables; out of memory may come at any time
abbrev pub IsTablesFault : MissionText → TableTexts → Fault → Type 0
IsTablesFault said tables fault.NoMemory = Unit {0}
IsTablesFault said tables (fault.Mission refusal) =
    (e : plan.Fault) × IsFaultOf said tables e × (refusal ≡ refusal_of e)
IsTablesFault said tables fault = ⊥

-- a table that the mission names was not read
pub record IsTableUnread (contents : Contents) (before after : Option (List Reading)) (name : List ℕ) (fault : Fault)
    : Type 0 where
  pub text : List ℕ
  pub said : MissionText
  pub says : mission_in text ≡ Ok said
  pub readings : List Reading
  pub left : List (List ℕ)
  pub read : WereRead contents before after (reading name text ∷ readings)
  pub split : names_beside name said ≡ map (λ r. r.name) readings ++ left
  pub stopped : StopsAt contents left fault

-- the mission and its tables were read, and this is their first fault
pub record IsTablesRead (contents : Contents) (before after : Option (List Reading)) (name : List ℕ) (fault : Fault)
    : Type 0 where
  pub said : MissionText
  pub texts : MissionTables
  pub read : ReadsMission contents before after name said texts
  pub is : IsTablesFault said (tables_of said texts) fault

-- the task is a mission whose text was read and says one, and it is refused for this
pub record IsMissionFault (old new : FilesView) (task : Task) (fault : Fault) : Type 0 where
  pub name : Bor (List ℕ)
  pub part : MissionPart
  pub output : Option (Bor (List ℕ))
  pub asked : task ≡ Mission name part output
  pub is : IsTableUnread old.contents old.readings new.readings name.now fault
      ⊎ IsTablesRead old.contents old.readings new.readings name.now fault
