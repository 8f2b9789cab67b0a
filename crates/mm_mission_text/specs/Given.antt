-- What is given of a table.
use Rattle.std.specs.Prelude.{ℕ, List, Option}

-- the entries of a table in a text, and the name of the CSV file whose entries come after them, if one is named
pub record Given (E : Type 0) : Type 0 where
  pub entries : List E
  pub file : Option (List ℕ)
