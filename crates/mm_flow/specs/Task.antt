-- The task of tables: a network, a source and a sink.
use Rattle.std.specs.Prelude.{◌≡◌, ℕ, slice_index}
use Rattle.mm_flow.specs.declared.tables.Tables.{Tables}
use Rattle.mm_flow.specs.Graph.{Graph}
use Rattle.mm_flow.specs.Balance.{KeepsSource}
use Rattle.mm_flow.specs.Marks.{HasMark, level, HasSearched}
use Rattle.mm_flow.specs.Levels.{IsUp, Carries}

-- the tables belong to this network, source and sink
pub record IsTask (g : Graph) (from to : ℕ) (t : Tables) : Type 0 where
  pub graph : t.residual.network.now.graph ≡ g
  pub source : t.search.source ≡ from
  pub sink : t.sink ≡ to

-- two tables belong to the same network, source and sink, and in the new ones no arc from the source carries less
pub record SameTask (old new : Tables) : Type 0 where
  pub graph : new.residual.network.now.graph ≡ old.residual.network.now.graph
  pub source : new.search.source ≡ old.search.source
  pub sink : new.sink ≡ old.sink
  pub kept : KeepsSource old.residual.network.now.graph old.search.source (slice_index old.residual.flow.items)
      (slice_index new.residual.flow.items)

-- two tables have the same flow and the same levels
pub record SameLevels (old new : Tables) : Type 0 where
  pub flow : new.residual.flow ≡ old.residual.flow
  pub value : new.value ≡ old.value
  pub levels : (n : ℕ) → level new.search.marks.items n ≡ level old.search.marks.items n

-- a path can be extended by an entry
abbrev pub IsOpen : Tables → ℕ → Type 0
IsOpen t e = IsUp t.residual.network.now.graph (slice_index t.residual.flow.items) t.search.marks.items e

-- a path with residual capacity leads from the source to a node
abbrev pub Reaches : Tables → ℕ → Type 0
Reaches t n = Carries t.residual t.search 1 n

-- a search of the residual network does not reach the sink
pub record IsOver (t : Tables) : Type 0 where
  pub searched : HasSearched t.residual t.search 1
  pub missed : ¬ HasMark t.search.marks.items t.sink
