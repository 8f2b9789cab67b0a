-- The problem that is made of data, tested in the same order as the readers test what they read.
use Rattle.std.specs.Prelude.{ℕ, ◌+◌, ◌*◌, nat_le, nat_lt, ◌&&◌, ◌==◌, List, [], ◌∷◌, ◌++◌, length, take, drop, pos}
use Rattle.std.specs.Prelude.{Result, Ok}
use Rattle.std.specs.List.{list_all}
use Rattle.mm_problem.specs.declared.come.Arrivals.TheVariants.{Before}
use Rattle.mm_problem.specs.declared.fault.Fault.{Fault}
use Rattle.mm_problem.specs.declared.fault.Fault.TheVariants.{ForecastText, Header, Limit}
use Rattle.mm_problem.specs.declared.fault.Name.{Name}
use Rattle.mm_problem.specs.declared.fault.Name.TheVariants as name
use Rattle.mm_base.specs.declared.limits.TheConstants.{MAX_BLOCKS, MAX_CHANNEL, CHANNELS}
use Rattle.mm_base.specs.declared.rows.LimitRow.{LimitRow}
use Rattle.mm_base.specs.declared.rows.StoreRow.{StoreRow}
use Rattle.mm_base.specs.Reading.{◌>>=◌, test}
use Rattle.mm_problem.specs.Document.{stores_counted, limits_counted}
use Rattle.mm_problem.specs.Dumping.{Dumping}
use Rattle.mm_problem.specs.Forecast.{another_step, some_step, limits_of}
use Rattle.mm_problem.specs.Keys.{within}
use Rattle.mm_problem.specs.Tables.{new_store, new_limit}

-- the tests of a store that follows these stores
unfoldable pub store_fits : List StoreRow → StoreRow → Result (Unit {0}) Fault
store_fits earlier row = do
  size ← within 1 MAX_BLOCKS name.Size (pos row.size)
  channel ← within 0 MAX_CHANNEL name.Channel (pos row.channel)
  start ← within 0 row.size name.Start (pos row.start)
  new_store earlier row

-- the tests of a limit that follows these limits
unfoldable pub limit_fits : List LimitRow → LimitRow → Result (Unit {0}) Fault
limit_fits earlier row = do
  channel ← within 0 MAX_CHANNEL name.Channel (pos row.channel)
  blocks ← within 0 MAX_BLOCKS name.Blocks (pos row.blocks)
  new_limit earlier row

-- the tests of rows that follow these rows
unfoldable pub rows_fit : {R : Type 0} → (List R → R → Result (Unit {0}) Fault) → List R → List R
    → Result (Unit {0}) Fault
rows_fit fits earlier [] = Ok tt
rows_fit fits earlier (row ∷ rows) = do
  this ← fits earlier row
  rows_fit fits (earlier ++ row ∷ []) rows

-- the test of amounts of blocks
abbrev pub amounts_fit : Name → List ℕ → Result (Unit {0}) Fault
amounts_fit name amounts = test (list_all (λ n. nat_le n MAX_BLOCKS) amounts) (Limit name)

-- the tests of the step that follows this number of steps, with its window and its arrivals by store
unfoldable pub step_fits : ℕ → ℕ → List ℕ → Result (Unit {0}) Fault
step_fits earlier window arrivals = do
  not_too_many ← another_step earlier
  window ← within 0 MAX_BLOCKS name.Window (pos window)
  amounts_fit name.Arrivals arrivals

-- the tests of the steps that follow this number of steps, each with an arrival for each store
unfoldable pub steps_fit : ℕ → ℕ → List ℕ → List ℕ → Result (Unit {0}) Fault
steps_fit stores earlier [] arrived = test (length arrived == 0) ForecastText
steps_fit stores earlier (window ∷ windows) arrived = do
  as_long ← test (nat_le stores (length arrived)) ForecastText
  step ← step_fits earlier window (take stores arrived)
  steps_fit stores (earlier + 1) windows (drop stores arrived)

-- the problem of these stores, limits, windows, and arrivals (step by step, and within a step in store order), without
-- limits or sizes for single steps, and with arrivals before dumps
unfoldable pub problem_from : List StoreRow → List LimitRow → List ℕ → List ℕ → Result Dumping Fault
problem_from rows limits windows arrived = do
  store_count ← stores_counted (length rows)
  limit_count ← limits_counted (length limits)
  stores ← rows_fit store_fits [] rows
  by_channel ← rows_fit limit_fits [] limits
  steps ← steps_fit (length rows) 0 windows arrived
  some ← some_step (length windows)
  Ok (record {
    rows = rows;
    limits = limits_of limits;
    windows = windows;
    arrived = arrived;
    limited = [];
    step_limits = [];
    sized = [];
    step_sizes = [];
    come = Before;
  })

-- the test of a column that follows these: it is of one of so many channels or stores, and above them
abbrev pub column_fits : ℕ → List ℕ → ℕ → Result (Unit {0}) Fault
column_fits count earlier column = test (nat_lt column count && list_all (λ c. nat_lt c column) earlier) Header

-- the tests of these columns, and of one number for each column in each step
unfoldable pub columns_fit : ℕ → Name → ℕ → List ℕ → List ℕ → Result (Unit {0}) Fault
columns_fit count name steps columns cells = do
  few ← test (nat_le (length columns) count) Header
  each ← rows_fit (column_fits count) [] columns
  as_long ← test (length cells == steps * length columns) ForecastText
  amounts_fit name cells

-- the problem with these limits for these channels, step by step, and within a step in channel order
unfoldable pub limited_by : Dumping → List ℕ → List ℕ → Result Dumping Fault
limited_by q channels limits = do
  fit ← columns_fit CHANNELS name.Limit (length q.windows) channels limits
  Ok (record q { limited = channels; step_limits = limits })

-- the problem with these sizes for these stores, step by step, and within a step in store order
unfoldable pub sized_by : Dumping → List ℕ → List ℕ → Result Dumping Fault
sized_by q stores sizes = do
  fit ← columns_fit (length q.rows) name.Size (length q.windows) stores sizes
  Ok (record q { sized = stores; step_sizes = sizes })
