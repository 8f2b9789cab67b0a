-- The cells of a record.
use Rattle.std.proofs.Common.{◌≡◌, ℕ, ◌&&◌, false, arith, ◌+◌, ◌<◌, ◌≤◌, zero, suc, List, [], ◌∷◌, ◌++◌, length, drop}
use Rattle.std.proofs.Common.{Ok, Err, unwrap_or, refl, length-drop}
use Rattle.std.proofs.Math.Bool.{and-false}
use Rattle.std.proofs.lemmas.List.{drop_more, length-take-le}
use Rattle.csv.specs.Records.{field_at}
use Rattle.mm_problem.specs.Cells.{amount_of}
use Rattle.mm_problem.specs.Forecast.{cell_of, cells_from, begins_with, amounts_in}
use Rattle.mm_problem.specs.Records.{Fields}
use Rattle.std.specs.Prelude.{bytes_eq}
use Rattle.mm_problem.specs.declared.fault.Fault.{Fault}
use Rattle.mm_problem.specs.declared.fault.Name.{Name}

-- the field at a place
pub cell_is : (fields : List (List ℕ)) (i : ℕ) → cell_of fields i ≡ unwrap_or (field_at fields i) []
unfolding field_at
cell_is [] i = refl
cell_is (f ∷ fs) zero = refl
cell_is (f ∷ fs) (suc i) = cell_is fs i

-- the amounts from a cell on
module _ (name : Name) (row column i : ℕ) (earlier : List ℕ) (fields : List (List ℕ)) where
  -- after the last cell there is no further amount
  pub no_cell_left : (count : ℕ) → count ≡ 0
      → amounts_in name row earlier column (cells_from fields i count) ≡ Ok earlier
  unfolding amounts_in
  no_cell_left count none = rw none refl

  module _ (count more : ℕ) (one_more : count ≡ suc more) (within : i < length fields) where
    -- the amount in the cell at the place comes next
    pub next_amount : (amount : ℕ) → amount_of row column name (cell_of fields i) ≡ Ok amount
        → amounts_in name row earlier column (cells_from fields i count)
        ≡ amounts_in name row (earlier ++ amount ∷ []) (column + 1) (cells_from fields (i + 1) more)
    unfolding amounts_in
    next_amount amount given = rw (one_more, drop_more fields i [] within, given) refl

    -- a fault in that cell is the fault of all
    pub bad_amount : (e : Fault) → amount_of row column name (cell_of fields i) ≡ Err e
        → amounts_in name row earlier column (cells_from fields i count) ≡ Err e
    unfolding amounts_in
    bad_amount e given = rw (one_more, drop_more fields i [] within, given) refl

-- the cells from a place on begin with the one at this place
pub cells_at : (fields : Fields) (i count more : ℕ) → count ≡ suc more → i < length fields
    → cells_from fields i count ≡ cell_of fields i ∷ cells_from fields (i + 1) more
cells_at fields i count more one_more within = rw (one_more, drop_more fields i [] within) refl

-- as many cells as are asked for, where there are as many
pub cells_count : (fields : Fields) (first count : ℕ) → first + count ≤ length fields
    → length (cells_from fields first count) ≡ count
cells_count fields first count enough =
    length-take-le count (drop first fields) (omega (arith, length-drop first fields))

-- ---- the header

-- a shorter record does not begin with these fields
pub too_few : (xs ys : Fields) → length xs < length ys → begins_with xs ys ≡ false
too_few xs [] shorter = absurd (omega arith)
too_few [] (y ∷ ys) shorter = refl
too_few (x ∷ xs) (y ∷ ys) shorter = rw (too_few xs ys (omega arith)) (and-false (bytes_eq x y))

-- the first two cells, and those after them
pub header_cells : (fields : Fields) (n : ℕ) (a b : List ℕ) (more : Fields) → n + 2 ≤ length fields
    → begins_with fields (a ∷ b ∷ more)
    ≡ (bytes_eq (cell_of fields 0) a && (bytes_eq (cell_of fields 1) b && begins_with (drop 2 fields) more))
header_cells [] n a b more long = absurd (omega arith)
header_cells (x ∷ []) n a b more long = absurd (omega arith)
header_cells (x ∷ y ∷ rest) n a b more long = refl
