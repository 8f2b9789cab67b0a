-- What is done at one store in one step of a run: recorders make offers, and then one dump order is carried out.
use Rattle.std.specs.Prelude.{◌≡◌, ℕ, ◌+◌, ◌≤◌, max, List, ◌++◌, All}
use Rattle.mm_carry.specs.Words.{Stored, State, IsState, AreTaken, IsShuffleOfEvents, IsRun, Entry, Event, Offer}
use Rattle.mm_carry.specs.Words.{IsDumpOf}
use Rattle.mm_desk.specs.Laws.{HasTimes}

-- a legal list of calls leads from one state to another: first a shuffle of these lists of offers, of which none is
-- refused, and then the dump of at most this many packets, which gave these
pub record IsStepRun (offers : List (List Event)) (wanted : ℕ) (gave : List Stored) (s t : State) : Type 0 where
  pub recorded : List Entry
  pub dumped : List Entry
  pub run : IsRun s (recorded ++ dumped) t
  pub shuffle : IsShuffleOfEvents offers recorded
  pub taken : AreTaken recorded
  pub dump : IsDumpOf wanted gave dumped

-- the moments of offers fit 64 bits
abbrev pub AreTimed : List (List Event) → Type 0
AreTimed offers = All (λ list. All HasTimes list) offers

-- an offer at this moment, or before it
abbrev pub IsBy : ℕ → Event → Type 0
IsBy now (Offer at packet) = at ≤ now
IsBy now event = ⊥

-- all are offers at this moment, or before it
abbrev pub AreBy : ℕ → List (List Event) → Type 0
AreBy now offers = All (λ list. All (IsBy now) list) offers

-- what a step run with this many offers leaves of a store, besides what it stores, loses and dumps: it is sound, its
-- storage and its retrieval are as they were, and its counter of offers and its last storage time have moved by no more
-- than the offers
pub record KeepsStore (now many : ℕ) (s t : State) : Type 0 where
  pub sound : IsState t
  pub storage : t.storage ≡ s.storage
  pub retrieval : t.retrieval ≡ s.retrieval
  pub offered : t.offered ≡ s.offered + many
  pub last : t.store.last ≤ max s.store.last now + many
