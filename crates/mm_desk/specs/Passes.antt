-- A pass book, and its seats.
use Rattle.std.specs.Prelude.{◌≡◌, ℕ, List, length, All}
use Rattle.std.specs.declared.sync.ledger.Blank.{Blank}

-- what a pass book is opened from: the blank of its ledger, which has a part for each seat, and its window, in blocks
pub record IsPassBook (blank : Blank) (blocks seats ledger_name ledger_parts pass_window : ℕ) : Type 0 where
  pub name : blank.name ≡ ledger_name
  pub parts : blank.parts ≡ ledger_parts
  pub all : ledger_parts ≡ seats
  pub window : blocks ≡ pass_window

-- there are this many seats, and nothing was drawn through them
pub record AreUndrawn (seated : ℕ) (seats : List ℕ) : Type 0 where
  pub count : length seats ≡ seated
  pub none : All (λ drawn. drawn ≡ 0) seats
