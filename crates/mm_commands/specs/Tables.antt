-- The tables of a mission, as the program holds them.
use Rattle.std.specs.Prelude.{◌≡◌, ◌≢◌, ◌++◌, ℕ, List, [], ◌∷◌, Option, Some, None, IfSome, option_map}
use Rattle.std.specs.Prelude.{string_bytes}
use Rattle.mm_files.specs.Contents.{Reading, reading}
use Rattle.mm_mission_plan.specs.Rows.{TableTexts}
use Rattle.mm_mission_text.specs.declared.document.MissionText.{MissionText}
use Rattle.mm_commands.specs.Missions.{beside, text_if}
use Rattle.mm_commands.specs.declared.tables.MissionTables.{MissionTables}
use Rattle.mm_commands.specs.declared.tables.TableNames.{TableNames}

-- what is said of the names of a mission's tables, one after the other
pub record AreNames (mission : List ℕ) (said : MissionText) (names : TableNames) : Type 0 where
  pub stores : option_map string_bytes names.stores ≡ option_map (beside mission) said.stores.file
  pub stations : option_map string_bytes names.stations ≡ option_map (beside mission) said.stations.file
  pub passes : option_map string_bytes names.passes ≡ option_map (beside mission) said.passes.file
  pub observations : option_map string_bytes names.observations ≡ option_map (beside mission) said.observations.file

-- the name, if there is one
abbrev pub name_at : Option (List ℕ) → List (List ℕ)
name_at (Some name) = name ∷ []
name_at None = []

-- the names in order
abbrev pub names_at : TableNames → List (List ℕ)
names_at names = (name_at (option_map string_bytes names.stores) ++ name_at (option_map string_bytes names.stations))
    ++ (name_at (option_map string_bytes names.passes) ++ name_at (option_map string_bytes names.observations))

-- the file of this name was read, if there is one
abbrev pub reading_at : Option (List ℕ) → List ℕ → List Reading
reading_at (Some name) octets = reading name octets ∷ []
reading_at None octets = []

-- those of all names were read in order
abbrev pub readings_at : TableNames → MissionTables → List Reading
readings_at names texts =
    (reading_at (option_map string_bytes names.stores) texts.stores.items
    ++ reading_at (option_map string_bytes names.stations) texts.stations.items)
    ++ (reading_at (option_map string_bytes names.passes) texts.passes.items
    ++ reading_at (option_map string_bytes names.observations) texts.observations.items)

-- neither the mission nor a table has this name
pub record AreApart (path : List ℕ) (names : TableNames) (name : List ℕ) : Type 0 where
  pub mission : path ≢ name
  pub stores : IfSome (option_map string_bytes names.stores) (λ table. table ≢ name)
  pub stations : IfSome (option_map string_bytes names.stations) (λ table. table ≢ name)
  pub passes : IfSome (option_map string_bytes names.passes) (λ table. table ≢ name)
  pub observations : IfSome (option_map string_bytes names.observations) (λ table. table ≢ name)

-- the texts of the tables that are named
abbrev pub given_texts : TableNames → MissionTables → TableTexts
given_texts names texts = record {
  stores = text_if (option_map string_bytes names.stores) texts.stores.items;
  stations = text_if (option_map string_bytes names.stations) texts.stations.items;
  passes = text_if (option_map string_bytes names.passes) texts.passes.items;
  observations = text_if (option_map string_bytes names.observations) texts.observations.items;
}
