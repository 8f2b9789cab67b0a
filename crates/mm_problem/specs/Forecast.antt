-- The steps of a forecast's records, read in the order in which faults are found.
use Rattle.std.specs.Prelude.{ℕ, ◌+◌, Bool, true, false, ◌==◌, nat_le, nat_lt, ◌&&◌, List, [], ◌∷◌, ◌++◌, length, map}
use Rattle.std.specs.Prelude.{take, drop, Option, option_map, find, position, Result, Ok, Err, codes, slice_index_or}
use Rattle.std.specs.Prelude.{bytes_eq}
use Rattle.std.specs.List.{list_all, prefix_len, range_with_len}
use Rattle.std.specs.Option.{ok_or}
use Rattle.mm_problem.specs.declared.fault.Fault.{Fault}
use Rattle.mm_problem.specs.declared.fault.Fault.TheVariants.{ForecastText, Header, Limit}
use Rattle.mm_problem.specs.declared.fault.Name.{Name}
use Rattle.mm_problem.specs.declared.fault.Name.TheVariants as name
use Rattle.mm_base.specs.declared.limits.TheConstants.{MAX_STEPS, MAX_CHANNEL, CHANNELS}
use Rattle.mm_base.specs.declared.numbers.Numeral.{Numeral}
use Rattle.mm_base.specs.declared.numbers.Numeral.TheVariants.{NotNumber, TooLarge, Number}
use Rattle.mm_base.specs.declared.rows.LimitRow.{LimitRow}
use Rattle.mm_base.specs.declared.rows.StoreRow.{StoreRow}
use Rattle.mm_problem.specs.Cells.{amount_of, step_of}
use Rattle.mm_problem.specs.Dumping.{Dumping}
use Rattle.mm_base.specs.Id.{id_text}
use Rattle.mm_base.specs.Numbers.{numeral_of}
use Rattle.mm_base.specs.Reading.{◌>>=◌, test}
use Rattle.mm_problem.specs.Records.{Fields, records_of}
use Rattle.mm_problem.specs.Setup.{SetupRows}
use Rattle.mm_problem.specs.Tables.{rows_in}

-- the windows of some steps, and step by step the arrivals of each store, and the limits and sizes of the channels and
-- stores that have a column
pub record Steps : Type 0 where
  pub limited : List ℕ
  pub windows : List ℕ
  pub arrived : List ℕ
  pub step_limits : List ℕ
  pub sized : List ℕ
  pub step_sizes : List ℕ

-- the channels that have a column of limits in a forecast, and the stores that have a column of sizes
pub record Columns : Type 0 where
  pub limited : List ℕ
  pub sized : List ℕ

-- the first cells of a forecast, before the columns of limits and of sizes
abbrev pub header_of : List StoreRow → Fields
header_of stores = codes "step" ∷ codes "window" ∷ map (λ r. id_text r.id) stores

-- whether a record starts with these fields
abbrev pub begins_with : Fields → Fields → Bool
begins_with fields [] = true
begins_with [] (b ∷ more) = false
begins_with (a ∷ fields) (b ∷ more) = bytes_eq a b && begins_with fields more

-- a number of cells of a record, from a place on; places count from 0
abbrev pub cells_from : Fields → ℕ → ℕ → Fields
cells_from fields first count = take count (drop first fields)

-- whether a column's name begins as those of columns of limits
abbrev pub names_limit : List ℕ → Bool
names_limit name = bytes_eq (take 6 name) (codes "limit:")

-- the channel with this number
abbrev pub channel_from : Numeral → Result ℕ Fault
channel_from NotNumber = Err Header
channel_from TooLarge = Err Header
channel_from (Number channel) = Ok channel

-- the channel of a column of limits, which is named `limit:` with the channel's number
unfoldable pub channel_in : List ℕ → Result ℕ Fault
channel_in name = do
  limits ← test (names_limit name) Header
  channel_from (numeral_of MAX_CHANNEL (drop 6 name))

-- the channel of the next column of limits, which is above these channels
unfoldable pub next_channel : List ℕ → List ℕ → Result ℕ Fault
next_channel earlier name = do
  channel ← channel_in name
  rising ← test (list_all (λ c. nat_lt c channel) earlier) Header
  Ok channel

-- these channels, then those of further columns, in rising order
abbrev pub channels_in : List ℕ → Fields → Result (List ℕ) Fault
channels_in = rows_in next_channel

-- the text after `size:` in the name of a column of sizes
unfoldable pub sized_text : List ℕ → Result (List ℕ) Fault
sized_text name = do
  sizes ← test (bytes_eq (take 5 name) (codes "size:")) Header
  Ok (drop 5 name)

-- the store of a column of sizes, which is named `size:` with the store's identifier
unfoldable pub store_in : List StoreRow → List ℕ → Result ℕ Fault
store_in stores name = do
  text ← sized_text name
  ok_or (position (λ r. bytes_eq (id_text r.id) text) stores) Header

-- the store of the next column of sizes, which is above these stores
unfoldable pub next_sized : List StoreRow → List ℕ → List ℕ → Result ℕ Fault
next_sized stores earlier name = do
  store ← store_in stores name
  rising ← test (list_all (λ s. nat_lt s store) earlier) Header
  Ok store

-- these stores, then those of further columns, in rising order
abbrev pub places_in : List StoreRow → List ℕ → Fields → Result (List ℕ) Fault
places_in stores = rows_in (next_sized stores)

-- a cell of a record; cells count from 0
abbrev pub cell_of : Fields → ℕ → List ℕ
cell_of fields i = slice_index_or fields i []

-- these amounts, then those of the cells of a row from this column on
unfoldable pub amounts_in : Name → ℕ → List ℕ → ℕ → Fields → Result (List ℕ) Fault
amounts_in name row earlier column [] = Ok earlier
amounts_in name row earlier column (cell ∷ cells) = do
  amount ← amount_of row column name cell
  amounts_in name row (earlier ++ amount ∷ []) (column + 1) cells

-- the test that one more step may follow this number of steps
abbrev pub another_step : ℕ → Result (Unit {0}) Fault
another_step earlier = test (nat_lt earlier MAX_STEPS) (Limit name.Steps)

-- the test that there is at least one step
abbrev pub some_step : ℕ → Result (Unit {0}) Fault
some_step steps = test (nat_le 1 steps) (Limit name.Steps)

-- these steps, then the one of the next record
unfoldable pub next_step : ℕ → Steps → Fields → Result Steps Fault
next_step stores earlier fields = do
  as_long ← test (length fields == 2 + stores + length earlier.limited + length earlier.sized) ForecastText
  not_too_many ← another_step (length earlier.windows)
  numbered ← step_of (length earlier.windows + 1) (cell_of fields 0)
  window ← amount_of (length earlier.windows + 1) 2 name.Window (cell_of fields 1)
  arrived ← amounts_in name.Arrivals (length earlier.windows + 1) earlier.arrived 3 (cells_from fields 2 stores)
  limits ← amounts_in name.Limit (length earlier.windows + 1) earlier.step_limits (2 + stores + 1)
      (cells_from fields (2 + stores) (length earlier.limited))
  sizes ← amounts_in name.Size (length earlier.windows + 1) earlier.step_sizes (2 + stores + length earlier.limited + 1)
      (cells_from fields (2 + stores + length earlier.limited) (length earlier.sized))
  Ok (record {
    limited = earlier.limited;
    windows = earlier.windows ++ window ∷ [];
    arrived = arrived;
    step_limits = limits;
    sized = earlier.sized;
    step_sizes = sizes;
  })

-- these steps, then those of the records
unfoldable pub steps_in : ℕ → Steps → List Fields → Result Steps Fault
steps_in stores earlier [] = Ok earlier
steps_in stores earlier (fields ∷ rows) = do
  steps ← next_step stores earlier fields
  steps_in stores steps rows

-- no steps yet, in a forecast with these columns of limits and of sizes
abbrev pub no_steps : Columns → Steps
no_steps columns = record {
  limited = columns.limited;
  windows = [];
  arrived = [];
  step_limits = [];
  sized = columns.sized;
  step_sizes = [];
}

-- the steps, if there is at least one
unfoldable pub some_steps : Steps → Result Steps Fault
some_steps steps = do
  some ← some_step (length steps.windows)
  Ok steps

-- the steps of the records after the header
abbrev pub later_steps : ℕ → Columns → List Fields → Result Steps Fault
later_steps stores columns rows = steps_in stores (no_steps columns) rows >>= some_steps

-- the channels of columns of limits with these names
unfoldable pub limited_in : Fields → Result (List ℕ) Fault
limited_in names = do
  few ← test (nat_le (length names) CHANNELS) Header
  channels_in [] names

-- the stores of columns of sizes with these names
unfoldable pub sized_in : List StoreRow → Fields → Result (List ℕ) Fault
sized_in stores names = do
  few ← test (nat_le (length names) (length stores)) Header
  places_in stores [] names

-- how many columns of limits come first
abbrev pub limit_count : Fields → ℕ
limit_count names = prefix_len names_limit names

-- the columns of limits with these names, and then the columns of sizes
unfoldable pub columns_named : List StoreRow → Fields → Result Columns Fault
columns_named stores names = do
  limited ← limited_in (take (limit_count names) names)
  sized ← sized_in stores (drop (limit_count names) names)
  Ok (record { limited = limited; sized = sized })

-- the columns of limits and of sizes in a header, which names these stores first
unfoldable pub columns_in : List StoreRow → Fields → Result Columns Fault
columns_in stores header = do
  named ← test (begins_with header (header_of stores)) Header
  columns_named stores (drop (2 + length stores) header)

-- the same, if there is a first record, which is the header
abbrev pub header_in : List StoreRow → List Fields → Result Columns Fault
header_in stores [] = Err Header
header_in stores (header ∷ rows) = columns_in stores header

-- the steps of records, the first of which is the header
unfoldable pub forecast_in : List StoreRow → List Fields → Result Steps Fault
forecast_in stores rows = do
  columns ← header_in stores rows
  later_steps (length stores) columns (drop 1 rows)

-- the limit of a channel, if it has one
abbrev pub limit_of : List LimitRow → ℕ → Option ℕ
limit_of limits channel = option_map (λ r. r.blocks) (find (λ r. r.channel == channel) limits)

-- the limit of each channel
abbrev pub limits_of : List LimitRow → List (Option ℕ)
limits_of limits = map (limit_of limits) (range_with_len 0 CHANNELS)

-- the problem of a setup and the bytes of a forecast
unfoldable pub problem_of : SetupRows → List ℕ → Result Dumping Fault
problem_of setup octets = do
  steps ← forecast_in setup.stores (records_of octets)
  Ok (record {
    rows = setup.stores;
    limits = limits_of setup.limits;
    windows = steps.windows;
    arrived = steps.arrived;
    limited = steps.limited;
    step_limits = steps.step_limits;
    sized = steps.sized;
    step_sizes = steps.step_sizes;
    come = setup.come;
  })
