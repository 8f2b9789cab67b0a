-- Where things stand in a chart. Down is greater.
use Rattle.std.specs.Prelude.{ℕ, ◌+◌, ◌-◌, ◌*◌, ◌/◌, ◌<◌, nat_le, nat_lt, min, length, Option, Some, None, Bool}
use Rattle.std.specs.Prelude.{if◌then◌else◌}
use Rattle.std.specs.List.{sum_by, range_with_len}
use Rattle.mm_base.specs.declared.limits.TheConstants.{MAX_STORES}
use Rattle.mm_problem.specs.Dumping.{Dumping, limit}
use Rattle.mm_chart.specs.declared.layout.TheConstants.{LEFT, ROOM, MAX_WIDTH, WINDOW_BASE, CHANNEL_PITCH, STORE_PITCH}
use Rattle.mm_chart.specs.declared.layout.TheConstants.{TALL, THIN, LOSS, SAVED, OVER, WORDS_BELOW, LINE_PITCH}
use Rattle.mm_chart.specs.declared.series.Series.{Series}
use Rattle.mm_chart.specs.declared.series.Series.TheVariants.{WindowCounts, ChannelCounts, Sent, Inner, Last}
use Rattle.mm_chart.specs.declared.series.Series.TheVariants.{LeftAndSent, Left, Lost, Size, Worth, Raised}

-- the width of a step
abbrev pub step_width : Dumping → ℕ
step_width q = min MAX_WIDTH (ROOM / length q.windows)

-- the width of all steps together
unfoldable pub steps_width : Dumping → ℕ
steps_width q = step_width q * length q.windows

-- the right edge of a step; of step 0 it is where the first begins
abbrev pub edge : Dumping → ℕ → ℕ
edge q t = LEFT + step_width q * t

abbrev pub one_if_some : Option ℕ → ℕ
one_if_some (Some b) = 1
one_if_some None = 0

-- 1 where the channel has a limit: it has one in each step or in none, and so in the first
abbrev pub has_limit : Dumping → ℕ → ℕ
has_limit q c = one_if_some (limit q c 1)

-- how many of the channels below this one have a limit
abbrev pub limits_below : Dumping → ℕ → ℕ
limits_below q c = sum_by (has_limit q) (range_with_len 0 c)

-- whether a channel has a limit
abbrev pub is_limited : Dumping → Bool
is_limited q = nat_lt 0 (limits_below q (length q.limits))

-- the line on which a channel's row stands
abbrev pub channel_base : Dumping → ℕ → ℕ
channel_base q c = WINDOW_BASE + CHANNEL_PITCH * (limits_below q c + 1)

-- the line on which a store's row stands
abbrev pub store_base : Dumping → ℕ → ℕ
store_base q s = WINDOW_BASE + CHANNEL_PITCH * limits_below q (length q.limits) + STORE_PITCH * (s + 1)

-- the line of the last row
abbrev pub bottom : Dumping → ℕ
bottom q = store_base q (length q.rows - 1)

-- a line of words below the rows
abbrev pub word_line : Dumping → ℕ → ℕ
word_line q n = bottom q + WORDS_BELOW + LINE_PITCH * n

-- the height in which the whole of a series is drawn
abbrev pub room_of : Series → ℕ
room_of WindowCounts = TALL + 2 * OVER
room_of (Inner s) = TALL + 2 * OVER
room_of (Last s) = TALL + 2 * OVER
room_of (ChannelCounts c) = THIN + 2 * OVER
room_of (Sent c) = THIN
room_of (Lost s) = LOSS
room_of Worth = SAVED
room_of (Raised c) = SAVED
room_of _ = TALL

-- the line on which it stands
abbrev pub base_of : Dumping → Series → ℕ
base_of q WindowCounts = WINDOW_BASE + OVER
base_of q (ChannelCounts c) = channel_base q c + OVER
base_of q (Sent c) = channel_base q c
base_of q (Inner s) = store_base q s + OVER
base_of q (Last s) = store_base q s + OVER
base_of q (Lost s) = store_base q s - TALL
base_of q Worth = WINDOW_BASE - TALL
base_of q (Raised c) = channel_base q c - THIN
base_of q (LeftAndSent s) = store_base q s
base_of q (Left s) = store_base q s
base_of q (Size s) = store_base q s
base_of q _ = WINDOW_BASE

-- its store is one of those that there may be
abbrev pub IsPlaced : Series → Type 0
IsPlaced (Inner s) = s < MAX_STORES
IsPlaced (Last s) = s < MAX_STORES
IsPlaced (LeftAndSent s) = s < MAX_STORES
IsPlaced (Left s) = s < MAX_STORES
IsPlaced (Lost s) = s < MAX_STORES
IsPlaced (Size s) = s < MAX_STORES
IsPlaced _ = Unit {0}

-- from one tick to the next, in steps
abbrev pub tick_every : ℕ → ℕ
tick_every n = if nat_le n 12 then 1 else if nat_le n 24 then 2 else if nat_le n 60 then 5 else if nat_le n 120 then 10
    else 20
