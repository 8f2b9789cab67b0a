-- The rows of a setup, read from its tables in the order in which faults are found.
use Rattle.std.specs.Prelude.{ℕ, ◌+◌, Bool, ◌==◌, not, if◌then◌else◌, List, [], ◌∷◌, ◌++◌, length, Option, Some, None}
use Rattle.std.specs.Prelude.{Result, Ok, Err, bytes_eq}
use Rattle.std.specs.List.{list_any}
use Rattle.std.specs.Option.{ok_or}
use Rattle.toml.specs.Data.{Data, Members, as_table}
use Rattle.mm_problem.specs.declared.fault.Fault.{Fault}
use Rattle.mm_problem.specs.declared.fault.Fault.TheVariants.{SetupField}
use Rattle.mm_problem.specs.declared.fault.Name.{Name}
use Rattle.mm_problem.specs.declared.fault.Name.TheVariants as name
use Rattle.mm_base.specs.declared.kind.Kind.{Kind}
use Rattle.mm_base.specs.declared.kind.Kind.TheVariants.{Circular, Bounded}
use Rattle.mm_base.specs.declared.limits.TheConstants.{MAX_BLOCKS, MAX_CHANNEL, MAX_APID}
use Rattle.mm_base.specs.declared.rows.StoreRow.{StoreRow}
use Rattle.mm_base.specs.declared.rows.RouteRow.{RouteRow}
use Rattle.mm_base.specs.declared.rows.LimitRow.{LimitRow}
use Rattle.mm_base.specs.Id.{is_id_text, field_of}
use Rattle.mm_base.specs.Kind.{word_of}
use Rattle.mm_base.specs.SameRoutes.{same_route}
use Rattle.mm_problem.specs.Keys.{has_only, value_at, text_at, number_at}
use Rattle.mm_base.specs.Reading.{◌>>=◌, test}

-- the keys of each table
abbrev pub store_keys : List Name
store_keys = name.Id ∷ name.Size ∷ name.Type ∷ name.Channel ∷ name.Start ∷ []

abbrev pub route_keys : List Name
route_keys = name.Apid ∷ name.Service ∷ name.Subtype ∷ name.Store ∷ []

abbrev pub limit_keys : List Name
limit_keys = name.Channel ∷ name.Blocks ∷ []

-- the members of an element that is a table
abbrev pub table_at : ℕ → Name → Data → Result Members Fault
table_at row name d = ok_or (as_table d) (SetupField row name)

-- the members of an element that is a table with no keys but these
unfoldable pub table_of : ℕ → Name → List Name → Data → Result Members Fault
table_of row element keys d = do
  ms ← table_at row element d
  known ← test (has_only keys ms) (SetupField row name.Unknown)
  Ok ms

-- the identifier with this text, as its field
abbrev pub id_of : ℕ → Name → List ℕ → Result (List ℕ) Fault
id_of row name text = if is_id_text text then Ok (field_of text) else Err (SetupField row name)

-- the identifier at a key
unfoldable pub id_at : ℕ → Name → Members → Result (List ℕ) Fault
id_at row name ms = do
  text ← text_at row name ms
  id_of row name text

-- the kind that a word means
abbrev pub kind_of : ℕ → List ℕ → Result Kind Fault
kind_of row word =
    if bytes_eq word (word_of Circular) then Ok Circular
    else if bytes_eq word (word_of Bounded) then Ok Bounded
    else Err (SetupField row name.Type)

-- the kind in a store's table
unfoldable pub kind_at : ℕ → Members → Result Kind Fault
kind_at row ms = do
  word ← text_at row name.Type ms
  kind_of row word

-- the start volume of a store by this value, 0 if there is none
abbrev pub start_from : ℕ → ℕ → Members → Option Data → Result ℕ Fault
start_from row size ms None = Ok 0
start_from row size ms (Some d) = number_at row name.Start 0 size ms

-- the start volume in a store's table
abbrev pub start_at : ℕ → ℕ → Members → Result ℕ Fault
start_at row size ms = start_from row size ms (value_at name.Start ms)

-- the row in the table, if it passes the tests against these earlier rows
unfoldable pub row_after : {R : Type 0} → (ℕ → Data → Result R Fault) → (List R → R → Result (Unit {0}) Fault)
    → List R → Data → Result R Fault
row_after row_at new_row earlier d = do
  row ← row_at (length earlier + 1) d
  new ← new_row earlier row
  Ok row

-- these rows, then those of these tables or cells, each read after the rows before it
unfoldable pub rows_in : {R X : Type 0} → (List R → X → Result R Fault) → List R → List X → Result (List R) Fault
rows_in next earlier [] = Ok earlier
rows_in next earlier (x ∷ xs) = do
  row ← next earlier x
  rows_in next (earlier ++ row ∷ []) xs

-- the store in a row
unfoldable pub store_at : ℕ → Data → Result StoreRow Fault
store_at row d = do
  ms ← table_of row name.Store store_keys d
  id ← id_at row name.Id ms
  size ← number_at row name.Size 1 MAX_BLOCKS ms
  kind ← kind_at row ms
  channel ← number_at row name.Channel 0 MAX_CHANNEL ms
  start ← start_at row size ms
  Ok (record { id = id; size = size; start = start; kind = kind; channel = channel })

-- whether a store has this identifier
abbrev pub has_store : List StoreRow → List ℕ → Bool
has_store stores id = list_any (λ r. bytes_eq r.id id) stores

-- the test that no earlier store has the row's identifier
abbrev pub new_store : List StoreRow → StoreRow → Result (Unit {0}) Fault
new_store earlier row = test (not (has_store earlier row.id)) (SetupField (length earlier + 1) name.Repeated)

-- the stores of these tables
abbrev pub stores_in : List Data → Result (List StoreRow) Fault
stores_in = rows_in (row_after store_at new_store) []

-- the route in a row
unfoldable pub route_at : ℕ → Data → Result RouteRow Fault
route_at row d = do
  ms ← table_of row name.Route route_keys d
  apid ← number_at row name.Apid 0 MAX_APID ms
  service ← number_at row name.Service 0 255 ms
  subtype ← number_at row name.Subtype 0 255 ms
  store ← id_at row name.Store ms
  Ok (record { apid = apid; service = service; subtype = subtype; store = store })

-- the tests that a route leads to one of the stores, and differs from all earlier routes
unfoldable pub new_route : List StoreRow → List RouteRow → RouteRow → Result (Unit {0}) Fault
new_route stores earlier row = do
  stored ← test (has_store stores row.store) (SetupField (length earlier + 1) name.Store)
  test (not (list_any (λ r. same_route r row) earlier)) (SetupField (length earlier + 1) name.Repeated)

-- the routes of these tables
abbrev pub routes_in : List StoreRow → List Data → Result (List RouteRow) Fault
routes_in stores = rows_in (row_after route_at (new_route stores)) []

-- the limit in a row
unfoldable pub limit_at : ℕ → Data → Result LimitRow Fault
limit_at row d = do
  ms ← table_of row name.Limit limit_keys d
  channel ← number_at row name.Channel 0 MAX_CHANNEL ms
  blocks ← number_at row name.Blocks 0 MAX_BLOCKS ms
  Ok (record { channel = channel; blocks = blocks })

-- the test that no earlier limit has the row's channel
abbrev pub new_limit : List LimitRow → LimitRow → Result (Unit {0}) Fault
new_limit earlier row =
    test (not (list_any (λ r. r.channel == row.channel) earlier)) (SetupField (length earlier + 1) name.Repeated)

-- the limits of these tables
abbrev pub limits_in : List Data → Result (List LimitRow) Fault
limits_in = rows_in (row_after limit_at new_limit) []
