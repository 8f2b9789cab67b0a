-- The rows of a table that are left after those that have been read.
use Rattle.std.proofs.Common.{◌≡◌, ℕ, ◌+◌, ◌<◌, ◌≤◌, List, [], ◌∷◌, length, get_or, drop, refl, Result, Ok, Err}
use Rattle.std.proofs.lemmas.List.{drop_more, drop_all}
use Rattle.mm_base.specs.Reading.{◌>>=◌}
use Rattle.mm_mission_exact.specs.Each.{each_in}
use Rattle.mm_mission_exact.specs.declared.fault.Fault.{Fault}

module _ {M R : Type 0} (next : ℕ → M → R → Result M Fault) (rows : List R) (place : ℕ) (made : M) where
  -- after the last row nothing is made any more
  pub each_none : length rows ≤ place → each_in next place made (drop place rows) ≡ Ok made
  unfolding each_in
  each_none past = rw (drop_all place rows past) refl

  module _ (row : R) (below : place < length rows) (is : row ≡ get_or rows place row) where
    -- what is made of the next row is there for those after it
    pub each_next : (after : M) → next place made row ≡ Ok after
        → each_in next place made (drop place rows) ≡ each_in next (place + 1) after (drop (place + 1) rows)
    unfolding each_in
    each_next after given = rw (drop_more rows place row below, ← is, given) refl

    -- a fault in it is the fault of all
    pub each_fault : (e : Fault) → next place made row ≡ Err e → each_in next place made (drop place rows) ≡ Err e
    unfolding each_in
    each_fault e given = rw (drop_more rows place row below, ← is, given) refl
