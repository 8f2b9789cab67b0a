-- A run of the machine: the log of the calls made, and the state that it leaves.
use Rattle.std.specs.Prelude.{◌≡◌, ℕ, List, [], ◌∷◌, slice_index_or}
use Rattle.mm_desk.specs.Types.{Bounded, Entry, Event, Reply}
use Rattle.mm_store.specs.Content.{empty_store}
use Rattle.mm_desk.specs.Machine.{State, opening, step}

-- what a log keeps of a call by this seat
abbrev pub entry : ℕ → Event → Reply → Entry
entry seat event reply = record { seat = seat; event = event; reply = reply }

-- the state after the events of a log
abbrev pub replay : State → List Entry → State
replay s [] = s
replay s (e ∷ es) = replay (step s e.event).1 es

-- each reply of a log is the machine's at that point
abbrev pub IsLegal : State → List Entry → Type 0
IsLegal s [] = Unit {0}
IsLegal s (e ∷ es) = (e.reply ≡ (step s e.event).0) × IsLegal (step s e.event).1 es

-- the log is legal from the first state, and leaves the last one
pub record IsRun (s : State) (es : List Entry) (t : State) : Type 0 where
  pub legal : IsLegal s es
  pub leaves : t ≡ replay s es

-- the state of no store
abbrev pub blank : State
blank = opening (empty_store Bounded 0)

-- the opening state at this place
abbrev pub opening_at : List State → ℕ → State
opening_at states place = slice_index_or states place blank
