-- The numbers of a run, beside those of a plan.
use Rattle.std.specs.Prelude.{◌≡◌, ℕ, ◌+◌, ◌-◌, ◌<◌, ◌≤◌, length}
use Rattle.mm_carry.specs.Words.{Dumping, setup_size, start, arrivals, Amounts, left, written, lost, State, IsState}

-- at each of this many stores, in each of this many steps
abbrev pub AtEach : ℕ → ℕ → (ℕ → ℕ → Type 0) → Type 0
AtEach stores steps P = (s t : ℕ) → s < stores → 1 ≤ t → t ≤ steps → P s t

-- as a run begins, a store has its size and holds its start volume
pub record IsReady (q : Dumping) (s : ℕ) (state : State) : Type 0 where
  pub sound : IsState state
  pub sized : state.store.size ≡ setup_size q s
  pub holds : length state.store.content ≡ start q s

-- from the state before a step to the state after it a store takes what arrives, and comes to hold, loses and dumps
-- what the plan says
pub record AsPlanned (q : Dumping) (x : Amounts) (s t : ℕ) (before after : State) : Type 0 where
  pub takes : after.offered ≡ before.offered + arrivals q s t
  pub holds : length after.store.content ≡ left q x s t
  pub loses : after.lost ≡ before.lost + lost q x s t
  pub dumps : after.deleted ≡ before.deleted + (written q x s t - left q x s t)
