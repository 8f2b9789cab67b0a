-- The storage control: a set of rows, as the list of them in order.
use Rattle.std.specs.Prelude.{◌≡◌, ℕ, ◌<◌, ◌≤◌, Bool, ◌==◌, nat_lt, not, ◌&&◌, ◌||◌, List, ◌∷◌, ◌++◌, length, map}
use Rattle.std.specs.Prelude.{filter, count_by, insert, remove, bytes_eq, AllPairs}
use Rattle.std.specs.List.{list_any}
use Rattle.std.specs.Ordering.{nat_cmp, ordering_then, is_lt}
use Rattle.std.specs.Cmp.Lexicographic.{slice_cmp}
use Rattle.std.specs.declared.cmp.Ordering.{Ordering}
use Rattle.std.specs.declared.cmp.Ordering.TheVariants.{Less}
use Rattle.mm_base.specs.declared.limits.TheConstants.{MAX_ROUTES}
use Rattle.mm_base.specs.declared.rows.RouteRow.{RouteRow}
use Rattle.mm_base.specs.SameRoutes.{same_route}

-- the order of rows: by APID, service and subtype, and then by the store's identifier
abbrev pub row_cmp : RouteRow → RouteRow → Ordering
row_cmp a b =
    ordering_then (nat_cmp a.apid b.apid)
    (ordering_then (nat_cmp a.service b.service)
    (ordering_then (nat_cmp a.subtype b.subtype)
    (slice_cmp nat_cmp a.store b.store)))

-- whether row a is before row b
abbrev pub is_before : RouteRow → RouteRow → Bool
is_before a b = is_lt (row_cmp a b)

-- the rows are in order, and no row is there twice
abbrev pub IsInOrder : List RouteRow → Type 0
IsInOrder rows = AllPairs (λ a b. row_cmp a b ≡ Less) rows

-- at most 256 rows, in order
pub record IsTable (rows : List RouteRow) : Type 0 where
  pub in_order : IsInOrder rows
  pub at_most : length rows ≤ MAX_ROUTES

-- whether the table has the row
abbrev pub has_row : RouteRow → List RouteRow → Bool
has_row row rows = list_any (λ r. same_route r row) rows

-- whether a table takes a row: it already has the row, or it has room
abbrev pub takes : RouteRow → List RouteRow → Bool
takes row rows = has_row row rows || nat_lt (length rows) MAX_ROUTES

-- the rows with this row in its place
abbrev pub with_row : RouteRow → List RouteRow → List RouteRow
with_row row rows = filter (λ r. is_before r row) rows ++ row ∷ filter (λ r. is_before row r) rows

-- the rows without this row
abbrev pub without_row : RouteRow → List RouteRow → List RouteRow
without_row row rows = filter (λ r. not (same_route r row)) rows

-- the table has the row at this place
pub record Stands (row : RouteRow) (rows : List RouteRow) (place : ℕ) : Type 0 where
  pub within : place < length rows
  pub with : with_row row rows ≡ rows
  pub without : without_row row rows ≡ remove rows place

-- the table does not have the row, whose place would be this one
pub record WouldStand (row : RouteRow) (rows : List RouteRow) (place : ℕ) : Type 0 where
  pub within : place ≤ length rows
  pub with : with_row row rows ≡ insert rows place row

-- whether the row is for this store
abbrev pub is_to : List ℕ → RouteRow → Bool
is_to store r = bytes_eq r.store store

-- the rows for other stores
abbrev pub without_store : List ℕ → List RouteRow → List RouteRow
without_store store rows = filter (λ r. not (is_to store r)) rows

-- the number of rows for this store
abbrev pub count_of_store : List ℕ → List RouteRow → ℕ
count_of_store store rows = count_by (is_to store) rows

-- whether the row is for this report type
abbrev pub is_for : ℕ → ℕ → ℕ → RouteRow → Bool
is_for apid service subtype r = (r.apid == apid) && (r.service == service) && (r.subtype == subtype)

-- the order of a row's report type and this one
abbrev pub type_cmp : ℕ → ℕ → ℕ → RouteRow → Ordering
type_cmp apid service subtype r =
    ordering_then (nat_cmp r.apid apid) (ordering_then (nat_cmp r.service service) (nat_cmp r.subtype subtype))

-- identifiers in order, none of them twice
abbrev pub AreInOrder : List (List ℕ) → Type 0
AreInOrder ids = AllPairs (λ a b. slice_cmp nat_cmp a b ≡ Less) ids

-- the stores of a report type
abbrev pub stores_for : ℕ → ℕ → ℕ → List RouteRow → List (List ℕ)
stores_for apid service subtype rows = map (λ r. r.store) (filter (is_for apid service subtype) rows)
