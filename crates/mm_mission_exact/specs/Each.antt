-- The rows of a table, one after the other.
use Rattle.std.specs.Prelude.{ℕ, ◌+◌, List, [], ◌∷◌, ◌++◌, Result, Ok, Err}
use Rattle.mm_base.specs.Reading.{◌>>=◌}
use Rattle.mm_mission_exact.specs.declared.fault.Fault.{Fault}

-- what is made of rows, each with what was made of those before it, or the first fault; places count from this one on
unfoldable pub each_in : {M R : Type 0} → (ℕ → M → R → Result M Fault) → ℕ → M → List R → Result M Fault
each_in next place made [] = Ok made
each_in next place made (row ∷ rows) = next place made row >>= λ after. each_in next (place + 1) after rows

-- what is made of the next row comes last
abbrev pub added : {M : Type 0} → List M → Result M Fault → Result (List M) Fault
added made (Ok next) = Ok (made ++ next ∷ [])
added made (Err fault) = Err fault
