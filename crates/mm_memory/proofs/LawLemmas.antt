-- Rows that are added one by one.
use Rattle.mm_memory.proofs.Words.{◌≡◌, ◌||◌, Bool, true, false, List, [], ◌∷◌, refl, ap, ◌∙◌, fold, RouteRow}
use Rattle.mm_memory.proofs.Words.{IsInOrder, has_row, with_row}
use Rattle.mm_base.specs.SameRoutes.{same_route}
use Rattle.mm_control.specs.Laws.{AreSets}

-- a test more, in another order
another_order : (a b c : Bool) → ((a || b) || c) ≡ (b || (a || c))
another_order true true c = refl
another_order true false c = refl
another_order false true c = refl
another_order false false c = refl

nothing_more : (a : Bool) → a ≡ (a || false)
nothing_more true = refl
nothing_more false = refl

-- the rows of a table and of what is added to it
pub has_row-added : AreSets → (row : RouteRow) (rows routes : List RouteRow) → IsInOrder rows
    → has_row row (fold (λ all r. with_row r all) rows routes) ≡ (has_row row rows || has_row row routes)
has_row-added sets row rows [] ordered = nothing_more (has_row row rows)
has_row-added sets row rows (r ∷ rs) ordered =
    let added = (sets r rows ordered).0 in
    has_row-added sets row (with_row r rows) rs added.in_order
    ∙ ap (λ (b : Bool). b || has_row row rs) (added.has row)
    ∙ another_order (same_route r row) (has_row row rows) (has_row row rs)
