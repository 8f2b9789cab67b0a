-- Which lists of calls a log is a shuffle of.
use Rattle.std.specs.Prelude.{◌≡◌, ℕ, ◌<◌, ◌==◌, List, [], length, filter, slice_index_or, All}
use Rattle.mm_desk.specs.declared.entry.Entry.{Entry}

-- what a seat did: its entries in a log, in order
abbrev pub part : ℕ → List Entry → List Entry
part seat log = filter (λ e. e.seat == seat) log

-- each entry of a log is of a seat below this number
abbrev pub AreBelow : ℕ → List Entry → Type 0
AreBelow seats log = All (λ e. e.seat < seats) log

-- a log is a shuffle of lists, one for each seat
pub record IsShuffle (lists : List (List Entry)) (log : List Entry) : Type 0 where
  pub below : AreBelow (length lists) log
  pub parts : (seat : ℕ) → seat < length lists → part seat log ≡ slice_index_or lists seat []
