-- Laws of the storage control.
use Rattle.std.specs.Prelude.{◌≡◌, ℕ, not, ◌&&◌, ◌||◌, if◌then◌else◌, List, [], ◌∷◌, filter, bytes_eq}
use Rattle.mm_base.specs.declared.rows.RouteRow.{RouteRow}
use Rattle.mm_base.specs.SameRoutes.{same_route}
use Rattle.mm_control.specs.Routes.{IsInOrder, AreInOrder, has_row, with_row, without_row, stores_for}

-- an addition adds its row and no other, and keeps the order
pub record AddsOne (row : RouteRow) (rows : List RouteRow) : Type 0 where
  pub has : (r : RouteRow) → has_row r (with_row row rows) ≡ (same_route row r || has_row r rows)
  pub in_order : IsInOrder (with_row row rows)

-- a deletion deletes its row and no other, and keeps the order
pub record DeletesOne (row : RouteRow) (rows : List RouteRow) : Type 0 where
  pub has : (r : RouteRow) → has_row r (without_row row rows) ≡ (not (same_route row r) && has_row r rows)
  pub in_order : IsInOrder (without_row row rows)

-- a list of rows in order is a set of rows
abbrev pub AreSets : Type 0
AreSets = (row : RouteRow) (rows : List RouteRow) → IsInOrder rows → AddsOne row rows × DeletesOne row rows

-- a store is once among those of a report type if the table has its row, and is not among them if not
abbrev pub NamesOnce : Type 0
NamesOnce = (apid service subtype : ℕ) (id : List ℕ) (rows : List RouteRow) → IsInOrder rows
    → filter (bytes_eq id) (stores_for apid service subtype rows)
    ≡ (if has_row (record { apid = apid; service = service; subtype = subtype; store = id }) rows then id ∷ [] else [])

-- the stores of a report type are in the order of their identifiers
abbrev pub NamesInOrder : Type 0
NamesInOrder = (apid service subtype : ℕ) (rows : List RouteRow) → IsInOrder rows
    → AreInOrder (stores_for apid service subtype rows)
