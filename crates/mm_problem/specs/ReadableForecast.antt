-- Readable forecasts: the records of a problem, spelled out.
use Rattle.std.specs.Prelude.{◌≡◌, ℕ, List, ◌∷◌, ◌++◌, length, map, codes, slice_index_or}
use Rattle.std.specs.Fmt.{decimal}
use Rattle.std.specs.List.{range_with_len}
use Rattle.mm_base.specs.declared.rows.StoreRow.{StoreRow}
use Rattle.mm_base.specs.Grid.{cell}
use Rattle.mm_base.specs.Id.{id_text}
use Rattle.mm_problem.specs.Dumping.{Dumping, no_row, window, arrivals, stores, steps, IsDumping}
use Rattle.mm_problem.specs.Forecast.{header_of, limits_of}
use Rattle.mm_problem.specs.Records.{Fields, records_of}
use Rattle.mm_problem.specs.Setup.{SetupRows}

-- the name of the column with a channel's limits
abbrev pub limit_text : ℕ → List ℕ
limit_text channel = codes "limit:" ++ decimal channel

-- the places of the columns with limits
abbrev pub columns : Dumping → List ℕ
columns q = range_with_len 0 (length q.limited)

-- the name of the column with the sizes of the store at a place; places count from 0
abbrev pub size_text : List StoreRow → ℕ → List ℕ
size_text rows s = codes "size:" ++ id_text (slice_index_or rows s no_row).id

-- the places of the columns with sizes
abbrev pub size_columns : Dumping → List ℕ
size_columns q = range_with_len 0 (length q.sized)

-- the record of a step: its number, its window, its arrivals by store, its limits, and its sizes
abbrev pub record_of : Dumping → ℕ → Fields
record_of q t = decimal t ∷ decimal (window q t) ∷ map (λ s. decimal (arrivals q s t)) (stores q)
    ++ (map (λ k. decimal (cell (length q.limited) q.step_limits k t)) (columns q)
    ++ map (λ k. decimal (cell (length q.sized) q.step_sizes k t)) (size_columns q))

-- the records of a problem's forecast: the header, then one for each step
abbrev pub forecast_of : Dumping → List Fields
forecast_of q =
    (header_of q.rows ++ (map limit_text q.limited ++ map (size_text q.rows) q.sized)) ∷ map (record_of q) (steps q)

-- the bytes are the forecast of this problem, whose stores and limits are the setup's, and whose arrivals come when the
-- setup says
pub record IsReadableForecast (setup : SetupRows) (octets : List ℕ) (q : Dumping) : Type 0 where
  pub rows : q.rows ≡ setup.stores
  pub limits : q.limits ≡ limits_of setup.limits
  pub records : records_of octets ≡ forecast_of q
  pub within : IsDumping q
  pub come : q.come ≡ setup.come
