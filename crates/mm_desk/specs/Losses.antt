-- What a store loses for room (ECSS-E-ST-70-41C, 6.15: bounded and circular packet stores), over any events from any
-- state.
use Rattle.std.specs.Prelude.{◌≡◌, ◌≢◌, ◌<◌, ◌≤◌, nat_le, if◌then◌else◌, List, [], ◌∷◌, length, filter, flat_map}
use Rattle.std.specs.Prelude.{All, Contains, is_some}
use Rattle.mm_store.specs.Content.{IsRising}
use Rattle.mm_desk.specs.Types.{Stored, Event, Delete, Bounded, Circular}
use Rattle.mm_desk.specs.Fates.{packets_of, given, given_up, after, over}
use Rattle.mm_desk.specs.Machine.{State, IsState, step}
use Rattle.mm_desk.specs.Retrievals.{AtEach, overwritten}

-- where an event loses a packet, it finds the store full, and leaves it as it was
abbrev pub LosesNone : State → Event → Type 0
LosesNone s e = given_up s e ≢ [] → (s.store.size ≤ length s.store.content) × ((step s e).1.store ≡ s.store)

-- a packet is older than each of these
abbrev pub IsOlder : List Stored → Stored → Type 0
IsOlder held lost = All (λ p. lost.time < p.time) held

-- a bounded store loses only packets that find it full: none that it holds is overwritten for them
pub record LosesNew (s : State) (es : List Event) : Type 0 where
  pub full : AtEach LosesNone s es
  pub none : over overwritten s es ≡ []

-- a circular store loses only what it overwrites: packets that are older than all that it holds then
pub record LosesOldest (s : State) (es : List Event) : Type 0 where
  pub lost : over given_up s es ≡ packets_of (over overwritten s es)
  pub older : All (IsOlder (after s es).store.content) (over overwritten s es)

-- what an event takes out of a store: what it overwrites, or deletes
abbrev pub taken_out : State → Event → List Stored
taken_out s (Delete limit) = if is_some s.retrieval then [] else filter (λ p. nat_le p.time limit) s.store.content
taken_out s other = overwritten s other

-- over any events a bounded store loses new packets alone
abbrev pub BoundedLoseNew : Type 0
BoundedLoseNew = (s : State) (es : List Event) → s.store.kind ≡ Bounded → LosesNew s es

-- and a circular one its oldest
abbrev pub CircularLoseOldest : Type 0
CircularLoseOldest = (s : State) (es : List Event) → IsState s → s.store.kind ≡ Circular → LosesOldest s es

-- what is given is later than all that has left the store before
abbrev pub GiveLater : Type 0
GiveLater = (s : State) (es more : List Event) → IsState s
    → All (IsOlder (over given (after s es) more)) (over taken_out s es)

-- events in parts, such as steps: the times of what a part gives rise, and at its end all of it has left the store
abbrev pub AreSettled : State → List (List Event) → Type 0
AreSettled s [] = Unit {0}
AreSettled s (es ∷ parts) =
    IsRising (over given s es) × All (Contains (over taken_out s es)) (over given s es) × AreSettled (after s es) parts

-- over such parts the times of all that is given rise; whole dump orders are such parts, since each deletes its packets
abbrev pub GiveRising : Type 0
GiveRising = (s : State) (parts : List (List Event)) → IsState s → AreSettled s parts
    → IsRising (over given s (flat_map (λ es. es) parts))
