-- What a store of a memory loses for room (ECSS-E-ST-70-41C, 6.15: bounded and circular packet stores), in any call.
use Rattle.std.specs.Prelude.{◌≡◌, ◌≢◌, ◌≤◌}
use Rattle.mm_memory.specs.Words.{ℕ, List, [], length, All, Some, Circular, Bounded, packets_of, State, IsState}
use Rattle.mm_desk.specs.Losses.{IsOlder}
use Rattle.mm_memory.specs.Accounts.{Turn, AreTurns, lost_by, held_in}
use Rattle.mm_memory.specs.Holdings.{Holdings, state_of}
use Rattle.mm_memory.specs.Retrievals.{AtEachTurn, HasState, overwritten_by}

-- of a bounded store a turn loses only a packet that finds it full, and leaves it as it was; it overwrites none
pub record LosesNewIn (id : List ℕ) (m : Holdings) (t : Turn) (s : State) : Type 0 where
  pub full : lost_by id m t.call s ≢ []
      → (s.store.size ≤ length s.store.content) × HasState (λ u. u.store ≡ s.store) (state_of id t.left)
  pub none : overwritten_by id m t.call s ≡ []

-- of a circular store a turn loses only what it overwrites: packets that are older than all that it then holds
pub record LosesOldestIn (id : List ℕ) (m : Holdings) (t : Turn) (s : State) : Type 0 where
  pub lost : lost_by id m t.call s ≡ packets_of (overwritten_by id m t.call s)
  pub older : All (IsOlder (held_in id t.left)) (overwritten_by id m t.call s)

-- what a turn loses of the store with an identifier, where there is one
abbrev pub LosesInTurn : List ℕ → Holdings → Turn → Type 0
LosesInTurn id m t = (s : State) → state_of id m ≡ Some s
    → (s.store.kind ≡ Bounded → LosesNewIn id m t s) × (s.store.kind ≡ Circular → IsState s → LosesOldestIn id m t s)

-- over any turns a bounded store loses new packets alone, and a circular one its oldest
abbrev pub StoresLoseNewOrOldest : Type 0
StoresLoseNewOrOldest = (m : Holdings) (turns : List Turn) → AreTurns m turns → (id : List ℕ)
    → AtEachTurn (LosesInTurn id) m turns
