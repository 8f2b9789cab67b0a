-- What a by-time-range retrieval gives from its begin to its end (ECSS-E-ST-70-41C, 6.15: begun by subtype 9, aborted
-- by subtype 17), with any other events between.
use Rattle.std.specs.Prelude.{◌≡◌, ℕ, ◌≤◌, List, [], ◌∷◌, ◌++◌, take, All, Contains, IsTrue, Some, None, is_some}
use Rattle.std.specs.Prelude.{Result, Ok}
use Rattle.mm_desk.specs.Types.{Stored, Event, Offer, Abort, Offered, KeptOver, Returned}
use Rattle.mm_store.specs.Content.{IsRising}
use Rattle.mm_desk.specs.Fates.{given, deleted, after, over}
use Rattle.mm_desk.specs.Machine.{State, IsState, offer, step}

-- the packet that an answer to an offer overwrites: the oldest of those held, with its time
abbrev pub oldest_over : Result Offered Returned → List Stored → List Stored
oldest_over (Ok (KeptOver time packet)) held = take 1 held
oldest_over other held = []

-- what an event overwrites
abbrev pub overwritten : State → Event → List Stored
overwritten s (Offer now packet) = oldest_over (offer s now packet).0 s.store.content
overwritten s other = []

-- this is so of each event and the state before it
abbrev pub AtEach : (State → Event → Type 0) → State → List Event → Type 0
AtEach P s [] = Unit {0}
AtEach P s (e ∷ es) = P s e × AtEach P (step s e).1 es

-- a retrieval is on
abbrev pub IsOn : State → Type 0
IsOn s = IsTrue (is_some s.retrieval)

-- a retrieval of this range was just begun: it gave no packet yet
abbrev pub IsBegun : ℕ → ℕ → State → Type 0
IsBegun from to s = s.retrieval ≡ Some (record { from = from; to = to; after = 0 })

-- an event aborts no retrieval
abbrev pub AbortsNone : Event → Type 0
AbortsNone Abort = ⊥
AbortsNone other = Unit {0}

-- the time of a packet is in the range, both ends included
abbrev pub IsWithin : ℕ → ℕ → Stored → Type 0
IsWithin from to p = (from ≤ p.time) × (p.time ≤ to)

-- each packet of the range that was held was given or overwritten
abbrev pub AreGiven : ℕ → ℕ → List Stored → List Stored → List Stored → Type 0
AreGiven from to held gave lost = All (λ p. IsWithin from to p → Contains (gave ++ lost) p) held

-- what events during a retrieval give: each packet is held when it is given, is in the range, and is given once, the
-- oldest first; nothing is deleted; where the retrieval ends and is not aborted, each packet of the range that was held
-- at its begin is given or overwritten
pub record GivesRange (from to : ℕ) (s : State) (es : List Event) : Type 0 where
  pub held : AtEach (λ t e. All (Contains t.store.content) (given t e)) s es
  pub within : All (IsWithin from to) (over given s es)
  pub rising : IsRising (over given s es)
  pub kept : over deleted s es ≡ []
  pub complete : All AbortsNone es → (after s es).retrieval ≡ None
      → AreGiven from to s.store.content (over given s es) (over overwritten s es)

-- over any events of a retrieval, from its begin on: it is on before each of them
abbrev pub RetrievalsGiveRanges : Type 0
RetrievalsGiveRanges = (from to : ℕ) (s : State) (es : List Event) → IsState s → IsBegun from to s
    → AtEach (λ t e. IsOn t) s es → GivesRange from to s es
