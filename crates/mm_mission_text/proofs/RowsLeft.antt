-- The cells and the rows that are left to be read.
use Rattle.std.proofs.Common.{◌≡◌, ℕ, ◌+◌, ◌<◌, true, false, List, [], ◌∷◌, length, drop, refl}
use Rattle.std.proofs.lemmas.List.{drop_more}
use Rattle.mm_problem.specs.Forecast.{cell_of}
use Rattle.mm_problem.specs.Records.{Fields}
use Rattle.mm_mission_text.specs.Tables.{is_blank, numbered}

-- the cells from a place on begin with the one at this place
pub cells_left : (cells : Fields) (i : ℕ) (cell : List ℕ) → i < length cells → cell ≡ cell_of cells i
    → drop i cells ≡ cell ∷ drop (i + 1) cells
cells_left cells i cell within is = rw is (drop_more cells i [] within)

module _ (number : ℕ) (cells : Fields) (rows more : List Fields) (is : rows ≡ cells ∷ more) where
  -- a blank row is left out
  pub blank_left : is_blank cells ≡ true → numbered number rows ≡ numbered (number + 1) more
  unfolding numbered
  blank_left blank = rw (is, blank) refl

  -- another row has its number
  pub row_left : is_blank cells ≡ false → numbered number rows ≡ (number, cells) ∷ numbered (number + 1) more
  unfolding numbered
  row_left written = rw (is, written) refl

-- nothing is left after the last row
pub nothing_left : (number : ℕ) (rows : List Fields) → rows ≡ [] → numbered number rows ≡ []
unfolding numbered
nothing_left number rows none = rw none refl
