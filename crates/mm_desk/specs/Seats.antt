-- The seats of a desk, and what a call through one does.
use Rattle.std.specs.Prelude.{◌≡◌, ◌≢◌, ℕ, ◌<◌, List, [], ◌∷◌, ◌++◌, length, map, slice_index_or, Err}
use Rattle.mm_desk.specs.Types.{Entry, Event, Offer, Begin, Next, Abort, Delete, Enable, Disable, NoMemory, Reply}
use Rattle.mm_desk.specs.declared.reply.Reply.TheVariants as reply
use Rattle.mm_desk.specs.Machine.{State}
use Rattle.mm_desk.specs.Runs.{entry}

-- what is under a desk's lock: its place, the state of its store, and the log of the calls made
pub record LockedStoreView : Type 0 where
  pub place : ℕ
  pub state : State
  pub log : List Entry

-- a seat: the place of its desk, its number there, and the list of the calls made through it
pub record SeatView : Type 0 where
  pub place : ℕ
  pub number : ℕ
  pub list : List Entry

-- a seat through which no call was made
abbrev pub new_seat : ℕ → ℕ → SeatView
new_seat place number = record { place = place; number = number; list = [] }

-- what a contract sees of a desk: its place, and how many seats it has
pub record DeskView : Type 0 where
  pub place : ℕ
  pub seats : ℕ

-- a desk at this place, with this many seats
abbrev pub desk_view : ℕ → ℕ → DeskView
desk_view place seats = record { place = place; seats = seats }

-- the lists of seats
abbrev pub lists_of : List SeatView → List (List Entry)
lists_of seats = map (λ s. s.list) seats

-- each seat stands at the place of its number, and there are this many
pub record AreInOrder (seated : ℕ) (seats : List SeatView) : Type 0 where
  pub count : length seats ≡ seated
  pub numbers : (i : ℕ) → i < length seats → (slice_index_or seats i (new_seat 0 0)).number ≡ i

-- there are this many seats, in order, of the desk at this place, and no call was made through them
pub record AreNew (place seated : ℕ) (seats : List SeatView) : Type 0 where
  pub count : length seats ≡ seated
  pub each : (i : ℕ) → i < seated → slice_index_or seats i (new_seat 0 0) ≡ new_seat place i

-- what a call answers that found no memory
abbrev pub lacking : Event → Reply
lacking (Offer now packet) = reply.Offered (Err (record { fault = NoMemory; packet = packet }))
lacking (Begin from to) = reply.Done (Err NoMemory)
lacking Next = reply.Given (Err NoMemory)
lacking Abort = reply.Done (Err NoMemory)
lacking (Delete limit) = reply.Deleted (Err NoMemory)
lacking Enable = reply.Done (Err NoMemory)
lacking Disable = reply.Done (Err NoMemory)

-- a seat with one call more in its list
abbrev pub with_call : SeatView → Event → Reply → SeatView
with_call seat event reply = record seat { list = seat.list ++ entry seat.number event reply ∷ [] }

-- a call made through a seat is in its list; where there was no memory it is not, and nothing has changed
pub record Tells (old : SeatView) (event : Event) (reply : Reply) (new : SeatView) : Type 0 where
  pub told : reply ≢ lacking event → new ≡ with_call old event reply
  pub lacks : reply ≡ lacking event → new ≡ old
