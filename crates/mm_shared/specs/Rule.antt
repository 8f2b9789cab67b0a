-- The rule of shared stores: what holds of their words, slots and all that their seats know, between any two steps.
use Rattle.std.specs.Prelude.{◌≡◌, ℕ, ◌+◌, ◌<◌, ◌≤◌, ◌==◌, if◌then◌else◌, List, [], length, map, filter, slice_index_or}
use Rattle.std.specs.Prelude.{Option, Some, None, replicate}
use Rattle.mm_shared.specs.Words.{none, some, get_elem?, Table, Entry, State, IsRun, opening_at, AreBelow, part}
use Rattle.mm_shared.specs.declared.rule.Knows.{Knows}
use mathlib.Core.Option as slot

-- what is known of seats from the first on: the states from which calls count, the list of calls of each seat, each
-- call with the index of its store, and the state that is held, with the index of its store
abbrev pub knows : List State → ℕ → List (List (ℕ × Entry)) → Option (ℕ × State) → Knows
knows states first lists held = record { states = states; first = first; lists = lists; held = held }

-- what is known of all seats if no call was made
abbrev pub all_seats : List State → ℕ → Knows
all_seats states seats = knows states 0 (replicate seats []) None

-- the calls on one store
abbrev pub calls_on : ℕ → List (ℕ × Entry) → List Entry
calls_on k calls = map (λ c. c.1) (filter (λ c. c.0 == k) calls)

-- what is held of one store
abbrev pub held_of : ℕ → Option (ℕ × State) → Option State
held_of k None = None
held_of k (Some held) = if held.0 == k then Some held.1 else None

-- what the view at a place holds, if a seat has the state now
abbrev pub held_by : (ℕ → ℕ) → Option ℕ → State → ℕ → Option State
held_by owner None now port = None
held_by owner (Some seat) now port = if owner seat == port then Some now else None

-- each element of a list has this, at its place
abbrev pub Each : {A : Type 0} → (ℕ → A → Type 0) → List A → Type 0
Each {A} P list = (i : ℕ) (a : A) → get_elem? list i ≡ some a → P i a

-- what a view knows of seats: those that it has are its own, and if it has one, or there are none, it knows the states
-- from which calls count
pub record Owns (openings : List State) (seats : ℕ) (owner : ℕ → ℕ) (port : ℕ) (v : Knows) : Type 0 where
  pub within : v.first + length v.lists ≤ seats
  pub owned : (seat : ℕ) → v.first ≤ seat → seat < v.first + length v.lists → owner seat ≡ port
  pub agree : (length v.lists ≡ 0 → seats ≡ 0) → v.states ≡ openings

-- the course of a store: the log of its calls, its state now, and the seat that has the state, if one has it
pub record Course : Type 0 where
  pub log : List Entry
  pub now : State
  pub holder : Option ℕ

-- the state of a store is in its slot, or its word says that one of this many seats has it
abbrev pub Stands : ℕ → ℕ → slot.Option State → State → Option ℕ → Type 0
Stands seats word home now None = home ≡ some now
Stands seats word home now (Some seat) = (0 < word) × (seat < seats)

-- the log is legal from the opening state to the state now, which a seat has or the slot
pub record IsCourse (opening : State) (seats word : ℕ) (home : slot.Option State) (it : Course) : Type 0 where
  pub run : IsRun opening it.log it.now
  pub below : AreBelow seats it.log
  pub stands : Stands seats word home it.now it.holder

-- a view's lists are the parts of the log of a store, and it holds the state of the store if one of its seats has it
pub record Fits (owner : ℕ → ℕ) (k : ℕ) (it : Course) (port : ℕ) (v : Knows) : Type 0 where
  pub parts : (i : ℕ) → i < length v.lists → part (v.first + i) it.log ≡ calls_on k (slice_index_or v.lists i [])
  pub held : held_of k v.held ≡ held_by owner it.holder it.now port

-- a store took a course, and the lists of the views are the parts of their seats
pub record Keeps (opening : State) (seats : ℕ) (owner : ℕ → ℕ) (k : ℕ) (t : Table State Knows) : Type 0 where
  pub it : Course
  pub course : IsCourse opening seats (slice_index_or t.words k 0) (slice_index_or t.homes k none) it
  pub fits : Each (Fits owner k it) t.views

-- there are states from which calls count; each seat is in one view at most, and each of this many stores keeps the
-- rule. One word more is no store's, so that a table without stores has one. Without seats no call is ever made
pub record IsKept (stores seats : ℕ) (t : Table State Knows) : Type 0 where
  pub openings : List State
  pub owner : ℕ → ℕ
  pub there : (seat : ℕ) → seat < seats → owner seat < length t.views
  pub words : length t.words ≡ stores + 1
  pub homes : length t.homes ≡ stores
  pub owns : Each (Owns openings seats owner) t.views
  pub keeps : (k : ℕ) → k < stores → Keeps (opening_at openings k) seats owner k t
