-- Readings of one thing after the other.
use Rattle.std.proofs.Common.{◌≡◌, List, [], ◌∷◌, ◌++◌, Result, Ok, Err, refl}
use Rattle.mm_mission_text.specs.Headers.{all_in}

module _ {R X F : Type 0} (next : List R → X → Result R F) (earlier : List R) (left : List X) where
  -- where nothing is left, there is nothing further
  pub all_none : left ≡ [] → all_in next earlier left ≡ Ok earlier
  unfolding all_in
  all_none none = rw none refl

  module _ (x : X) (more : List X) (is : left ≡ x ∷ more) (rows : List R) (same : rows ≡ earlier) where
    -- what the first of the rest is read as comes next
    pub all_next : (row : R) → next rows x ≡ Ok row → all_in next earlier left ≡ all_in next (earlier ++ row ∷ []) more
    unfolding all_in
    all_next row given = rw (is, rw same at given) refl

    -- a fault in it is the fault of all
    pub all_fault : (e : F) → next rows x ≡ Err e → all_in next earlier left ≡ Err e
    unfolding all_in
    all_fault e given = rw (is, rw same at given) refl
