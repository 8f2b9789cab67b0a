-- The numbers of a problem that a mission can change, and the problem with one of them changed.
use Rattle.std.specs.Prelude.{ℕ, ◌+◌, ◌<◌, ◌≤◌, min, Bool, is_some, unwrap_or, List, ◌++◌, length, map, filter}
use Rattle.std.specs.Prelude.{flat_map, IsSome}
use Rattle.std.specs.List.{range_with_len}
use Rattle.mm_base.specs.declared.limits.TheConstants.{MAX_BLOCKS}
use Rattle.mm_problem.specs.Dumping.{Dumping, setup_size, setup_limit, column_limit, column_size, window, stores}
use Rattle.mm_problem.specs.Dumping.{steps, channels}
use Rattle.mm_problem.specs.Changed.{with_window, with_limit, with_column_limit, with_column_size, with_size}
use Rattle.mm_sensitivity.specs.declared.item.Item.{Item}
use Rattle.mm_sensitivity.specs.declared.item.Item.TheVariants.{Window, Size, Limit, StepLimit, StepSize}

-- a number of the problem
abbrev pub IsItem : Dumping → Item → Type 0
IsItem q (Window t) = (1 ≤ t) × (t ≤ length q.windows)
IsItem q (Size s) = s < length q.rows
IsItem q (Limit c) = (c < length q.limits) × IsSome (setup_limit q c)
IsItem q (StepLimit k t) = (k < length q.limited) × (1 ≤ t) × (t ≤ length q.windows)
IsItem q (StepSize k t) = (k < length q.sized) × (1 ≤ t) × (t ≤ length q.windows)

-- its value, in blocks
abbrev pub number : Dumping → Item → ℕ
number q (Window t) = window q t
number q (Size s) = setup_size q s
number q (Limit c) = unwrap_or (setup_limit q c) 0
number q (StepLimit k t) = column_limit q k t
number q (StepSize k t) = column_size q k t

-- the problem with another value of the number
abbrev pub with_number : Dumping → Item → ℕ → Dumping
with_number q (Window t) n = with_window q t n
with_number q (Size s) n = with_size q s n
with_number q (Limit c) n = with_limit q c n
with_number q (StepLimit k t) n = with_column_limit q k t n
with_number q (StepSize k t) n = with_column_size q k t n

-- the least value allowed
abbrev pub least_number : Item → ℕ
least_number (Size s) = 1
least_number _ = 0

-- one more, or the largest value itself
abbrev pub next_number : ℕ → ℕ
next_number n = min (n + 1) MAX_BLOCKS

-- whether a channel has a limit in the setup
abbrev pub has_limit : Dumping → ℕ → Bool
has_limit q c = is_some (setup_limit q c)

-- the limits of a column
abbrev pub column_items : Dumping → ℕ → List Item
column_items q column = map (StepLimit column) (steps q)

-- the sizes of a column
abbrev pub size_items : Dumping → ℕ → List Item
size_items q column = map (StepSize column) (steps q)

-- all numbers: the windows, the sizes of the stores in order, the limits of the channels that have one, those of each
-- column, and the sizes of each column
abbrev pub items : Dumping → List Item
items q =
    map Window (steps q) ++ map Size (stores q) ++ map Limit (filter (has_limit q) (channels q))
    ++ flat_map (column_items q) (range_with_len 0 (length q.limited))
    ++ flat_map (size_items q) (range_with_len 0 (length q.sized))
