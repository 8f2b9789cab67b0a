-- What a by-time-range retrieval from a store of a memory gives (ECSS-E-ST-70-41C, 6.15), over any calls on the memory
-- from its begin on.
use Rattle.std.specs.Prelude.{◌≡◌, ◌∷◌}
use Rattle.mm_memory.specs.Words.{ℕ, List, [], All, Contains, Option, Some, None, Stored, IsRising, over, State}
use Rattle.mm_memory.specs.Words.{IsState}
use Rattle.mm_desk.specs.Retrievals.{overwritten, IsOn, IsBegun, AbortsNone, IsWithin, AreGiven}
use Rattle.mm_memory.specs.Accounts.{Call, Turn, AreTurns, after_turns, events_in, deleted_by, given_by, in_store}
use Rattle.mm_memory.specs.Accounts.{in_turns, held_in}
use Rattle.mm_memory.specs.Holdings.{Holdings, state_of}

-- P holds of each turn and the memory before it
abbrev pub AtEachTurn : (Holdings → Turn → Type 0) → Holdings → List Turn → Type 0
AtEachTurn P m [] = Unit {0}
AtEachTurn P m (t ∷ ts) = P m t × AtEachTurn P t.left ts

-- there is a store, and P holds of its state
abbrev pub HasState : (State → Type 0) → Option State → Type 0
HasState P (Some s) = P s
HasState P None = ⊥

-- a retrieval from the store with an identifier is on before a turn
abbrev pub IsOnIn : List ℕ → Holdings → Turn → Type 0
IsOnIn id m t = HasState IsOn (state_of id m)

-- a turn aborts no retrieval from it
abbrev pub AbortsNoneIn : List ℕ → Holdings → Turn → Type 0
AbortsNoneIn id m t = All AbortsNone (events_in id m t.call)

-- what a turn gives of a retrieval from it is held
abbrev pub GivesHeldIn : List ℕ → Holdings → Turn → Type 0
GivesHeldIn id m t = All (Contains (held_in id m)) (in_store (given_by id m t.call) (state_of id m))

-- the packets of the store that a call overwrites
abbrev pub overwritten_by : List ℕ → Holdings → Call → State → List Stored
overwritten_by id m c s = over overwritten s (events_in id m c)

-- what turns during a retrieval give: each packet is held when it is given, is in the range, and is given once, the
-- oldest first; nothing is deleted; where the retrieval ends and is not aborted, each packet of the range that was held
-- at its begin is given or overwritten
pub record GivesRangeIn (from to : ℕ) (id : List ℕ) (m : Holdings) (turns : List Turn) : Type 0 where
  pub held : AtEachTurn (GivesHeldIn id) m turns
  pub within : All (IsWithin from to) (in_turns given_by id m turns)
  pub rising : IsRising (in_turns given_by id m turns)
  pub kept : in_turns deleted_by id m turns ≡ []
  pub complete : AtEachTurn (AbortsNoneIn id) m turns
      → HasState (λ s. s.retrieval ≡ None) (state_of id (after_turns m turns))
      → AreGiven from to (held_in id m) (in_turns given_by id m turns) (in_turns overwritten_by id m turns)

-- over any turns of a retrieval from a store, from its begin on: it is on before each of them
abbrev pub RetrievalsGiveRangesIn : Type 0
RetrievalsGiveRangesIn = (from to : ℕ) (id : List ℕ) (m : Holdings) (turns : List Turn) → AreTurns m turns
    → HasState (λ s. IsState s × IsBegun from to s) (state_of id m) → AtEachTurn (IsOnIn id) m turns
    → GivesRangeIn from to id m turns
