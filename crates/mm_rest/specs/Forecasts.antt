-- The text of a problem's forecast: comma separated values (RFC 4180), a header and a record for each step.
use Rattle.std.specs.Prelude.{ℕ, ◌<◌, List, [], ◌∷◌, ◌++◌, codes, decimal, flat_map, length}
use Rattle.std.specs.Prelude.{slice_index}
use Rattle.mm_base.specs.Characters.{line_feed}
use Rattle.mm_base.specs.Id.{IsIdField, id_text}
use Rattle.mm_problem.specs.Dumping.{Dumping, row, window, arrivals, stores, steps, column_limit, column_size}
use Rattle.mm_problem.specs.ReadableForecast.{columns, limit_text, size_columns, size_text}

abbrev pub comma : ℕ
comma = 44

-- a cell after another of its record
abbrev pub next_cell : List ℕ → List ℕ
next_cell cell = comma ∷ cell

-- the cell of the header that names a store
abbrev pub id_cell : Dumping → ℕ → List ℕ
id_cell q s = next_cell (id_text (row q s).id)

-- the cell of the header that names a column of limits
abbrev pub column_cell : Dumping → ℕ → List ℕ
column_cell q k = next_cell (limit_text (slice_index q.limited k))

-- the cell of the header that names a column of sizes
abbrev pub sized_cell : Dumping → ℕ → List ℕ
sized_cell q k = next_cell (size_text q.rows (slice_index q.sized k))

-- the cell of what arrives in a store in a step
abbrev pub arrived_cell : Dumping → ℕ → ℕ → List ℕ
arrived_cell q t s = next_cell (decimal (arrivals q s t))

-- the cell of a limit of a step
abbrev pub limit_cell : Dumping → ℕ → ℕ → List ℕ
limit_cell q t k = next_cell (decimal (column_limit q k t))

-- the cell of a size of a step
abbrev pub size_cell : Dumping → ℕ → ℕ → List ℕ
size_cell q t k = next_cell (decimal (column_size q k t))

-- each store has the field of an identifier
abbrev pub HasIds : Dumping → Type 0
HasIds q = (s : ℕ) → s < length q.rows → IsIdField (row q s).id

unfoldable pub header_text : Dumping → List ℕ
header_text q =
    codes "step,window" ++ flat_map (id_cell q) (stores q) ++ flat_map (column_cell q) (columns q)
    ++ flat_map (sized_cell q) (size_columns q) ++ line_feed ∷ []

-- the record of a step
unfoldable pub step_text : Dumping → ℕ → List ℕ
step_text q t =
    decimal t ++ next_cell (decimal (window q t)) ++ flat_map (arrived_cell q t) (stores q)
    ++ flat_map (limit_cell q t) (columns q) ++ flat_map (size_cell q t) (size_columns q) ++ line_feed ∷ []

-- the header, and the records of all steps
unfoldable pub forecast_text : Dumping → List ℕ
forecast_text q = header_text q ++ flat_map (step_text q) (steps q)
