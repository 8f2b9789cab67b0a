-- A mission's rows in exact numbers.
use Rattle.std.specs.Prelude.{ℕ, ◌-◌, List, map, Result, Ok}
use Rattle.mm_base.specs.Reading.{◌>>=◌}
use Rattle.mm_mission.specs.declared.parts.Observation.{Observation}
use Rattle.mm_mission.specs.declared.parts.Pass.{Pass}
use Rattle.mm_mission.specs.declared.parts.Store.{Store}
use Rattle.mm_mission_exact.specs.declared.exact.Exact.{Exact}
use Rattle.mm_mission_exact.specs.declared.fault.Fault.{Fault}
use Rattle.mm_mission_exact.specs.declared.rows.Rows.{Rows}
use Rattle.mm_mission_exact.specs.Windows.{window_of}
use Rattle.mm_mission_exact.specs.Stores.{stores_in}
use Rattle.mm_mission_exact.specs.Passes.{passes_in}
use Rattle.mm_mission_exact.specs.Observations.{all_arriving, all_timed, all_observations}

pub record ExactRows : Type 0 where
  pub begin : ℕ
  -- in microseconds
  pub lasts : ℕ
  pub stores : List Store
  -- in the order of their begins, and in which place of the rows each stands
  pub passes : List Pass
  pub places : List ℕ
  pub observations : List Observation

-- the numbers of the program
abbrev pub seen : Exact → ExactRows
seen e = record {
  begin = e.begin;
  lasts = e.lasts;
  stores = e.stores.items;
  passes = e.passes.items;
  places = e.places.items;
  observations = e.observations.items;
}

-- the exact numbers of a mission in which so many of the longest packets are a unit, or its first fault
unfoldable pub exact_of : Rows → ℕ → Result ExactRows Fault
exact_of rows unit = do
  mission ← window_of rows
  stores ← stores_in rows unit
  passes ← passes_in rows mission
  arriving ← all_arriving stores mission rows.observations.now
  timed ← all_timed arriving stores
  observations ← all_observations timed arriving
  Ok (record {
    begin = mission.begin;
    lasts = mission.end - mission.begin;
    stores = timed;
    passes = map (λ p. p.pass) passes;
    places = map (λ p. p.place) passes;
    observations = observations;
  })
