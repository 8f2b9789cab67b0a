-- What one step with a shared store's seat does to it. No public clause cites this module.
use Rattle.std.specs.Prelude.{◌≡◌, ◌≢◌, ℕ, ◌+◌, ◌<◌, List, [], ◌∷◌, ◌++◌, length, map, Some, None, slice_index_or, drop}
use Rattle.mm_shared.specs.Words.{Me, Step, TableId, Event, Reply, State, step, entry, opening_at}
use Rattle.atomic_table.specs.declared.shared.Seat.{Seat}
use Rattle.mm_shared.specs.declared.rule.Knows.{Knows}
use Rattle.mm_shared.specs.Rule.{knows, all_seats, calls_on}
use Rattle.mm_shared.specs.Views.{HasLegalLog, HaveLogs}

-- a seat of a shared store: what it knows, and what it has of the slot
abbrev pub Seated : Type 0
Seated = Me State Knows

-- a table of this many stores has a word and a slot of this index, which are a store's
pub record HasSlot (id : TableId) (stores k : ℕ) : Type 0 where
  pub word : k < id.words
  pub slot : k < id.slots
  pub opened : k < stores

-- a table has a word and a slot for each of this many stores, and a word more
pub record HasSlots (id : TableId) (stores : ℕ) : Type 0 where
  pub words : id.words ≡ stores + 1
  pub slots : id.slots ≡ stores

-- a seat that has no slot
pub record IsAtRest (m : Seated) : Type 0 where
  pub none : m.0.held ≡ None
  pub empty : m.1 ≡ []

-- the seat holding the state of the store of an index: the first one when it was taken, and the second one now
abbrev pub holding : ℕ → Seated → State → State → Seated
holding k m taken now = (record m.0 { held = Some (k, taken) }, (k, now) ∷ [])

-- the seat at rest
abbrev pub at_rest : Seated → Seated
at_rest m = (record m.0 { held = None }, [])

-- the seat holds the state of a store, which is still as it was taken
abbrev pub Holds : ℕ → Seated → Seated → Type 0
Holds k m n = (s : State) × (n ≡ holding k m s s)

-- a seat of this table may take a state: it is at rest, and has a seat at least
pub record MayTake (id : TableId) (seat : Seat State Knows) : Type 0 where
  pub of : seat.table_id ≡ id
  pub rest : IsAtRest seat.me
  pub seated : 0 < length seat.me.0.lists

-- the seat has taken the state
pub record HasTaken (k : ℕ) (seat after : Seat State Knows) : Type 0 where
  pub of : after.table_id ≡ seat.table_id
  pub holds : Holds k seat.me after.me

-- the seat holds a state as it was taken
pub record IsAsTaken (k : ℕ) (m : Seated) : Type 0 where
  pub taken : State
  pub held : m.0.held ≡ Some (k, taken)
  pub has : m.1 ≡ (k, taken) ∷ []

-- the first list with one call more
abbrev pub lists_with : {A : Type 0} → A → List (List A) → List (List A)
lists_with call [] = []
lists_with call (list ∷ lists) = (list ++ call ∷ []) ∷ lists

-- the seat at rest, with one call more in the list of its first seat
abbrev pub called : ℕ → Seated → Event → Reply → Seated
called k m event reply = (record m.0 { lists = lists_with (k, entry m.0.first event reply) m.0.lists; held = None }, [])

-- the seat holds the state of a store that this call left
pub record HasCalled (k : ℕ) (event : Event) (reply : Reply) (m : Seated) : Type 0 where
  pub taken : State
  pub now : State
  pub held : m.0.held ≡ Some (k, taken)
  pub has : m.1 ≡ (k, now) ∷ []
  pub seated : 0 < length m.0.lists
  pub stepped : step taken event ≡ (reply, now)

-- a try of a lock: the state of its store is held if the word was 0
abbrev pub tried : Step State → Seated → ℕ → Seated → Type 0
tried st m r n = (r ≡ 0 → Holds st.word m n) × (r ≢ 0 → n ≡ m)

-- the holder of all seats takes the state of a store, to which a legal log of the calls of all seats leads
pub record IsTakenByAll (k : ℕ) (m n : Seated) : Type 0 where
  pub now : State
  pub holds : n ≡ holding k m now now
  pub legal : HasLegalLog (map (calls_on k) m.0.lists) (opening_at m.0.states k) now

-- these are all seats, there is at least one, and none holds a state
pub record AreAll (seats : ℕ) (m : Seated) : Type 0 where
  pub rest : IsAtRest m
  pub first : m.0.first ≡ 0
  pub count : length m.0.lists ≡ seats
  pub some_seat : 0 < seats

-- the holder of all seats knows the state of each of this many stores, to which a legal log of the calls of all seats
-- leads; from then on calls count from these states
pub record IsSettled (stores : ℕ) (m n : Seated) : Type 0 where
  pub logs : HaveLogs m.0.lists m.0.states n.0.states
  pub many : length n.0.states ≡ stores
  pub all : n ≡ (all_seats n.0.states (length m.0.lists), [])

-- the seats from the second on
abbrev pub others_of : Knows → Knows
others_of v = record v { first = v.first + 1; lists = drop 1 v.lists }

-- the first seat alone
abbrev pub first_of : Knows → Knows
first_of v = record v { lists = slice_index_or v.lists 0 [] ∷ []; held = None }

-- the seats of the second before those of the first
abbrev pub joined : Knows → Knows → Knows
joined v w = knows w.states w.first (w.lists ++ v.lists) v.held
