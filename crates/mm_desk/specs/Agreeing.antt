-- When a log and the lists of its seats agree.
use Rattle.std.specs.Prelude.{◌≡◌, ℕ, ◌<◌, List, length, slice_index_or}
use Rattle.mm_desk.specs.declared.entry.Entry.{Entry}
use Rattle.mm_desk.specs.Seats.{SeatView, AreInOrder, new_seat, lists_of}
use Rattle.mm_desk.specs.Shuffles.{IsShuffle, part}

-- a seat has this number, and its list is its part of the log
pub record HasItsPart (i : ℕ) (log : List Entry) (seat : SeatView) : Type 0 where
  pub number : seat.number ≡ i
  pub list : seat.list ≡ part i log

-- each seat stands at the place of its number, and its list is its part of the log
abbrev pub AreParts : List Entry → List SeatView → Type 0
AreParts log seats = (i : ℕ) → i < length seats → HasItsPart i log (slice_index_or seats i (new_seat 0 0))

-- the seats are this many and in order, and the log is a shuffle of their lists
pub record Agrees (log : List Entry) (seated : ℕ) (seats : List SeatView) : Type 0 where
  pub in_order : AreInOrder seated seats
  pub shuffle : IsShuffle (lists_of seats) log
