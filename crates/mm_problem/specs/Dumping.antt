-- The memory dumping problem, as numbers. Stores count from 0 in setup order, steps from 1.
use Rattle.std.specs.Prelude.{◌≡◌, ℕ, ◌-◌, ◌*◌, ◌≤◌, ◌<◌, min, nat_lt, Bool, ◌==◌, if◌then◌else◌, List, [], length}
use Rattle.std.specs.Prelude.{filter, All, AllPairs, Option, Some, None, slice_index, slice_index_or, IfSome}
use Rattle.std.specs.List.{position_or_len, range_with_len}
use Rattle.std.specs.Str.{bytes_eq}
use Rattle.mm_base.specs.declared.limits.TheConstants.{MAX_STEPS, MAX_BLOCKS, CHANNELS}
use Rattle.mm_problem.specs.declared.come.Arrivals.{Arrivals}
use Rattle.mm_problem.specs.declared.come.Arrivals.TheVariants.{Before}
use Rattle.mm_base.specs.declared.kind.Kind.TheVariants.{Circular}
use Rattle.mm_base.specs.declared.rows.StoreRow.{StoreRow}
use Rattle.mm_base.specs.Grid.{cell}
use Rattle.mm_problem.specs.Setup.{AreStores}

pub record Dumping : Type 0 where
  pub rows : List StoreRow
  -- for each channel its limit in the setup, in blocks a step, if it has one
  pub limits : List (Option ℕ)
  -- of each step
  pub windows : List ℕ
  -- step by step, and within a step in store order
  pub arrived : List ℕ
  -- the channels with a limit for each step, in rising order
  pub limited : List ℕ
  -- step by step, and within a step in the order of these channels
  pub step_limits : List ℕ
  -- the stores with a size for each step, in rising order
  pub sized : List ℕ
  -- step by step, and within a step in the order of these stores
  pub step_sizes : List ℕ
  -- when a step's arrivals come
  pub come : Arrivals

abbrev pub no_row : StoreRow
no_row = record { id = []; size = 0; start = 0; kind = Circular; channel = 0 }

abbrev pub row : Dumping → ℕ → StoreRow
row q s = slice_index_or q.rows s no_row

-- the place of the row with an identifier, or the number of rows if none has it
abbrev pub place_in : List StoreRow → List ℕ → ℕ
place_in rows id = position_or_len (λ r. bytes_eq r.id id) rows

abbrev pub place : Dumping → List ℕ → ℕ
place q id = place_in q.rows id

-- the size of the store in the setup
abbrev pub setup_size : Dumping → ℕ → ℕ
setup_size q s = (row q s).size

abbrev pub start : Dumping → ℕ → ℕ
start q s = (row q s).start

abbrev pub channel : Dumping → ℕ → ℕ
channel q s = (row q s).channel

-- the channel's limit in the setup, if it has one; it is the same in each step
abbrev pub setup_limit : Dumping → ℕ → Option ℕ
setup_limit q c = slice_index_or q.limits c None

-- the limit in a step in the column at a place; places count from 0
abbrev pub column_limit : Dumping → ℕ → ℕ → ℕ
column_limit q column t = cell (length q.limited) q.step_limits column t

-- the same, if there is such a column
abbrev pub in_column : Dumping → ℕ → ℕ → Option ℕ
in_column q column t = if nat_lt column (length q.limited) then Some (column_limit q column t) else None

-- the channel's limit of this step alone, if it has one
abbrev pub step_limit : Dumping → ℕ → ℕ → Option ℕ
step_limit q c t = in_column q (position_or_len (λ k. k == c) q.limited) t

-- the size in a step in the column at a place; places count from 0
abbrev pub column_size : Dumping → ℕ → ℕ → ℕ
column_size q column t = cell (length q.sized) q.step_sizes column t

-- the place of the store's column of sizes, or the number of columns if it has none
abbrev pub size_column : Dumping → ℕ → ℕ
size_column q s = position_or_len (λ k. k == s) q.sized

-- how many blocks a store can hold in a step: the setup's size, or the step's where that is less
unfoldable pub size : Dumping → ℕ → ℕ → ℕ
size q s t =
    if nat_lt (size_column q s) (length q.sized) then min (setup_size q s) (column_size q (size_column q s) t)
    else setup_size q s

-- the size of a store that has none by step
abbrev pub one_size : Dumping → ℕ → Option ℕ
one_size q s = if nat_lt (size_column q s) (length q.sized) then None else Some (setup_size q s)

-- the lesser of two limits, either of which may be missing
abbrev pub lesser : Option ℕ → Option ℕ → Option ℕ
lesser None b = b
lesser (Some a) None = Some a
lesser (Some a) (Some b) = Some (min a b)

-- the blocks that can leave through a channel in a step: the setup's limit, the step's, the lesser of both, or no limit
abbrev pub limit : Dumping → ℕ → ℕ → Option ℕ
limit q c t = if nat_lt c (length q.limits) then lesser (setup_limit q c) (step_limit q c t) else None

-- the blocks that can leave all stores in the step
abbrev pub window : Dumping → ℕ → ℕ
window q t = slice_index q.windows (t - 1)

-- the blocks that arrive in the store in the step
abbrev pub arrivals : Dumping → ℕ → ℕ → ℕ
arrivals q s t = cell (length q.rows) q.arrived s t

abbrev pub stores : Dumping → List ℕ
stores q = range_with_len 0 (length q.rows)

abbrev pub steps : Dumping → List ℕ
steps q = range_with_len 1 (length q.windows)

abbrev pub channels : Dumping → List ℕ
channels q = range_with_len 0 (length q.limits)

-- whether a store belongs to a channel
abbrev pub is_of : Dumping → ℕ → ℕ → Bool
is_of q c s = channel q s == c

abbrev pub stores_of : Dumping → ℕ → List ℕ
stores_of q c = filter (is_of q c) (stores q)

-- windows and arrivals for 1 to 256 steps
pub record AreSteps (rows : List StoreRow) (windows arrived : List ℕ) : Type 0 where
  pub has_step : 1 ≤ length windows
  pub at_most : length windows ≤ MAX_STEPS
  pub table : length arrived ≡ length windows * length rows
  pub each_window : All (λ n. n ≤ MAX_BLOCKS) windows
  pub each_arrival : All (λ n. n ≤ MAX_BLOCKS) arrived

-- a limit within the range of the profile
abbrev pub IsLimit : Option ℕ → Type 0
IsLimit o = IfSome o (λ n. n ≤ MAX_BLOCKS)

-- one limit or none for each channel
pub record AreChannels (limits : List (Option ℕ)) : Type 0 where
  pub all : length limits ≡ CHANNELS
  pub each : All IsLimit limits

-- a number for each step and each column; a column is of one of so many channels or stores, which rise
pub record AreColumns (count : ℕ) (windows columns cells : List ℕ) : Type 0 where
  pub at_most : length columns ≤ count
  pub each_column : All (λ c. c < count) columns
  pub rising : AllPairs ◌<◌ columns
  pub table : length cells ≡ length windows * length columns
  pub each_cell : All (λ n. n ≤ MAX_BLOCKS) cells

-- the numbers of a problem within all ranges
pub record IsDumping (q : Dumping) : Type 0 where
  pub stores : AreStores q.rows
  pub steps : AreSteps q.rows q.windows q.arrived
  pub channels : AreChannels q.limits
  pub by_step : AreColumns CHANNELS q.windows q.limited q.step_limits
  pub sizes : AreColumns (length q.rows) q.windows q.sized q.step_sizes

-- arrivals come before dumps, and no store has sizes by step: so the steps can be carried out
pub record IsFlyable (q : Dumping) : Type 0 where
  pub before : q.come ≡ Before
  pub one_size : q.sized ≡ []
