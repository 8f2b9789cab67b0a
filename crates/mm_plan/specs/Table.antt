-- A table of amounts: a row for each step, in it a place for each store.
use Rattle.std.specs.Prelude.{◌≡◌, ◌≢◌, ℕ, ◌*◌, ◌<◌, ◌≤◌, List, length, All}
use Rattle.mm_base.specs.Grid.{cell}
use Rattle.mm_base.specs.declared.limits.TheConstants.{MAX_STORES, MAX_BLOCKS}
use Rattle.mm_problem.specs.Dumping.{Dumping}

pub record Table : Type 0 where
  pub stores : ℕ
  pub steps : ℕ
  -- step by step, in each the stores in order
  pub amounts : List ℕ

-- the blocks that are to leave a store in a step
abbrev pub amount : Table → ℕ → ℕ → ℕ
amount x s t = cell x.stores x.amounts s t

pub record IsTable (x : Table) : Type 0 where
  pub has_store : 1 ≤ x.stores
  pub few : x.stores ≤ MAX_STORES
  pub has_step : 1 ≤ x.steps
  pub table : length x.amounts ≡ x.steps * x.stores
  pub each : All (λ n. n ≤ MAX_BLOCKS) x.amounts

-- the stores and the steps of the table are as many as the problem's
pub record HasShape (q : Dumping) (x : Table) : Type 0 where
  pub stores : x.stores ≡ length q.rows
  pub steps : x.steps ≡ length q.windows

-- a place of the table
pub record IsPlace (x : Table) (s t : ℕ) : Type 0 where
  pub store : s < x.stores
  pub first : 1 ≤ t
  pub last : t ≤ x.steps

-- the same table, but for the amount of one place
pub record ChangesAmount (old new : Table) (s t n : ℕ) : Type 0 where
  pub stores : new.stores ≡ old.stores
  pub steps : new.steps ≡ old.steps
  pub here : amount new s t ≡ n
  pub elsewhere : (r u : ℕ) → IsPlace old r u → (r ≡ s → u ≢ t) → amount new r u ≡ amount old r u
