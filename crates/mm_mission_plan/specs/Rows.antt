-- The rows of a mission: those of its text, and then those of the CSV files that it names.
use Rattle.std.specs.Prelude.{ℕ, List, ◌++◌, Option, Some, None, option_map, Result, Ok, Err}
use Rattle.mm_base.specs.Reading.{◌>>=◌}
use Rattle.mm_mission_exact.specs.declared.rows.Rows.{Rows}
use Rattle.mm_mission_text.specs.Cells.{told_as}
use Rattle.mm_mission_text.specs.Entries.{stores_in, stations_in, passes_in, observations_in}
use Rattle.mm_mission_text.specs.declared.column.Column.{Column}
use Rattle.mm_mission_text.specs.declared.column.Column.TheVariants as column
use Rattle.mm_mission_text.specs.declared.document.MissionText.{MissionText}
use Rattle.mm_mission_text.specs.declared.fault.Fault as text
use Rattle.mm_mission_text.specs.declared.observation.Observation.{Observation}
use Rattle.mm_mission_text.specs.declared.pass.Pass.{Pass}
use Rattle.mm_mission_text.specs.declared.station.Station.{Station}
use Rattle.mm_mission_text.specs.declared.store.PacketStore.{PacketStore}
use Rattle.mm_mission_text.specs.declared.whole.Whole.{Whole}
use Rattle.mm_mission_plan.specs.Faults.{table_fault}
use Rattle.mm_mission_plan.specs.declared.fault.Fault.{Fault}
use Rattle.mm_mission_plan.specs.declared.fault.Fault.TheVariants.{NotGiven, NotNamed}
use Rattle.mm_mission_plan.specs.declared.rows.AllRows.{AllRows}
use Rattle.mm_mission_plan.specs.declared.rows.Tables.{Tables}

-- the texts of CSV files, where they are given
pub record TableTexts : Type 0 where
  pub stores : Option (List ℕ)
  pub stations : Option (List ℕ)
  pub passes : Option (List ℕ)
  pub observations : Option (List ℕ)

-- those of the program
abbrev pub texts_of : Tables → TableTexts
texts_of t = record {
  stores = option_map (λ text. text.now) t.stores;
  stations = option_map (λ text. text.now) t.stations;
  passes = option_map (λ text. text.now) t.passes;
  observations = option_map (λ text. text.now) t.observations;
}

-- a mission and the rows of its tables
pub record SaidRows : Type 0 where
  pub whole : Whole
  pub stores : List PacketStore
  pub stations : List Station
  pub passes : List Pass
  pub observations : List Observation

-- those of the program
abbrev pub seen : AllRows → SaidRows
seen a = record {
  whole = a.whole;
  stores = a.stores.items;
  stations = a.stations.items;
  passes = a.passes.items;
  observations = a.observations.items;
}

-- the same, lent
abbrev pub said_by : Rows → SaidRows
said_by rows = record {
  whole = rows.whole.now;
  stores = rows.stores.now;
  stations = rows.stations.now;
  passes = rows.passes.now;
  observations = rows.observations.now;
}

-- the rows of the text, and then those of the file that it names; a file is given where one is named
abbrev pub with_rows : {R : Type 0} → Column → (List ℕ → Result (List R) text.Fault) → List R → Option (List ℕ)
    → Option (List ℕ) → Result (List R) Fault
with_rows file reads rows None None = Ok rows
with_rows file reads rows None (Some text) = Err (NotNamed file)
with_rows file reads rows (Some name) None = Err (NotGiven file)
with_rows file reads rows (Some name) (Some text) =
    told_as (table_fault file) (reads text) >>= λ more. Ok (rows ++ more)

-- all rows of a mission as its text says it, and of its files
unfoldable pub rows_in : MissionText → TableTexts → Result SaidRows Fault
rows_in said tables = do
  stores ← with_rows column.Stores stores_in said.stores.entries said.stores.file tables.stores
  stations ← with_rows column.Stations stations_in said.stations.entries said.stations.file tables.stations
  passes ← with_rows column.Passes passes_in said.passes.entries said.passes.file tables.passes
  observations ← with_rows column.Observations observations_in said.observations.entries said.observations.file
      tables.observations
  Ok (record {
    whole = said.whole;
    stores = stores;
    stations = stations;
    passes = passes;
    observations = observations;
  })
