-- Rows that are read one after the other.
use Rattle.std.proofs.Common.{◌≡◌, ℕ, ◌+◌, ◌<◌, ◌≤◌, List, [], ◌∷◌, ◌++◌, length, get_or, map, drop, refl, ap, Result}
use Rattle.std.proofs.Common.{Ok, Err}
use Rattle.std.proofs.lemmas.List.{drop_more, drop_all}
use Rattle.mm_problem.specs.declared.fault.Fault.{Fault}
use Rattle.mm_problem.specs.Tables.{rows_in}

module _ {R X : Type 0} (next : List R → X → Result R Fault) (earlier : List R) (left : List X) where
  -- where nothing is left there is no further row
  pub no_row : left ≡ [] → rows_in next earlier left ≡ Ok earlier
  unfolding rows_in
  no_row none = rw none refl

  module _ (x : X) (more : List X) (is : left ≡ x ∷ more) (rows : List R) (same : rows ≡ earlier) where
    -- the first of what is left gives the next row
    pub next_row : (row : R) → next rows x ≡ Ok row
        → rows_in next earlier left ≡ rows_in next (earlier ++ row ∷ []) more
    unfolding rows_in
    next_row row given = rw (is, rw same at given) refl

    -- a fault in it is the fault of all
    pub next_fault : (e : Fault) → next rows x ≡ Err e → rows_in next earlier left ≡ Err e
    unfolding rows_in
    next_fault e given = rw (is, rw same at given) refl

module _ {R X V : Type 0} (next : List R → X → Result R Fault) (view : V → X) (earlier : List R) (values : List V)
    (i : ℕ)
  where
    -- after the last value there is no further row
    pub all_rows : length values ≤ i → rows_in next earlier (map view (drop i values)) ≡ Ok earlier
    all_rows past = no_row next earlier (map view (drop i values)) (ap (map view) (drop_all i values past))

-- the values from a place on begin with the one at this place
pub values_at : {V X : Type 0} (view : V → X) (values : List V) (i : ℕ) (value : V) → i < length values
    → value ≡ get_or values i value → map view (drop i values) ≡ view value ∷ map view (drop (i + 1) values)
values_at view values i value within is = rw (drop_more values i value within, ← is) refl
