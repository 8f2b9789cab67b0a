-- The rows of a chart: each is a list of shapes.
use Rattle.std.specs.Prelude.{ℕ, ◌+◌, ◌-◌, ◌/◌, ◌%◌, ◌==◌, ◌||◌, Bool, not, if◌then◌else◌, List, [], ◌∷◌, ◌++◌}
use Rattle.std.specs.Prelude.{length, codes, decimal, flat_map, is_some}
use Rattle.std.specs.List.{sum_by, list_any}
use Rattle.mm_base.specs.Id.{id_text}
use Rattle.mm_problem.specs.Dumping.{Dumping, row, setup_size, one_size, start, channel, arrivals, steps, stores}
use Rattle.mm_problem.specs.Dumping.{channels}
use Rattle.mm_chart.specs.declared.layout.TheConstants.{LEFT, WINDOW_BASE, TALL, THIN, NAME_AT, TICK_AT, SAVED_AT}
use Rattle.mm_chart.specs.declared.layout.TheConstants.{RAISED_AT, LARGER_AT}
use Rattle.mm_chart.specs.declared.phrases.TheConstants.{SAVES}
use Rattle.mm_chart.specs.declared.pen.Style.TheVariants as style
use Rattle.mm_chart.specs.declared.series.Series.{Series}
use Rattle.mm_chart.specs.declared.series.Series.TheVariants.{WindowCounts, Window, Used, ChannelCounts, Sent, Inner}
use Rattle.mm_chart.specs.declared.series.Series.TheVariants.{Last, LeftAndSent, Left, Lost, Size, Worth, Raised}
use Rattle.mm_chart.specs.Picture.{Drawn, has_worth}
use Rattle.mm_chart.specs.Series.{total_of, most_of, most_limit, size_worth_of}
use Rattle.mm_chart.specs.Layout.{edge, step_width, steps_width, has_limit, channel_base, store_base, bottom}
use Rattle.mm_chart.specs.Layout.{tick_every}
use Rattle.mm_chart.specs.Legend.{windows_keys, legend}
use Rattle.mm_chart.specs.Svg.{Shape, Label, Frame, Guide, Outline, escaped, grouped}

-- where the words at the right of a row begin
abbrev pub right : Dumping → ℕ
right q = LEFT + steps_width q + 8

-- words beside the name of a row
abbrev pub side : ℕ → List (List ℕ) → Shape
side y parts = Label style.Side NAME_AT y parts

-- words at the right of a row
abbrev pub total : Dumping → ℕ → List (List ℕ) → Shape
total q y parts = Label style.Total (right q) y parts

-- the frame of a row
abbrev pub frame : Dumping → ℕ → ℕ → Shape
frame q base height = Frame LEFT (base - height) (steps_width q) height

-- bars of what is saved, and the most of them in words; nothing where none is, or where that is not known
unfoldable pub saves : Drawn → Series → ℕ → List Shape
saves p x y =
    if not (has_worth p) || (most_of p x == 0) then []
    else Outline p x ∷ side y (SAVES.now ∷ grouped (most_of p x) ∷ []) ∷ []

-- ---- the row of the windows

unfoldable pub windows_words : Drawn → List Shape
windows_words p =
    Label style.Name NAME_AT (WINDOW_BASE - 18) (codes "windows" ∷ [])
    ∷ side (WINDOW_BASE - 4) (codes "up to " ∷ grouped (most_of p Window) ∷ [])
    ∷ total p.problem (WINDOW_BASE - 18) (grouped (total_of p Used) ∷ codes " sent" ∷ [])
    ∷ total p.problem (WINDOW_BASE - 4) (codes "of " ∷ grouped (total_of p Window) ∷ [])
    ∷ []

unfoldable pub windows_row : Drawn → List Shape
windows_row p =
    Outline p WindowCounts ∷ Outline p Window ∷ Outline p Used ∷ frame p.problem WINDOW_BASE TALL
    ∷ windows_words p ++ windows_keys p

-- ---- the rows of the channels with a limit

-- whether a channel has limits of its own in each step
abbrev pub is_by_step : Dumping → ℕ → Bool
is_by_step q c = list_any (λ k. k == c) q.limited

-- what stands before the limit of a channel: the limits of its column may differ from step to step
unfoldable pub limit_front : Dumping → ℕ → List ℕ
limit_front q c = if is_by_step q c then codes ": up to " else codes ": "

-- what stands after it, where there is room for it
unfoldable pub limit_back : Dumping → ℕ → List ℕ
limit_back q c = if is_by_step q c then [] else codes " a step"

-- a channel with its limit, the greatest of all steps, and what leaves on it
unfoldable pub channel_words : Drawn → ℕ → List Shape
channel_words p c =
    side (channel_base p.problem c - 5) (codes "channel " ∷ decimal c ∷ limit_front p.problem c
    ∷ grouped (most_limit p.problem c) ∷ limit_back p.problem c ∷ [])
    ∷ total p.problem (channel_base p.problem c - 5) (grouped (total_of p (Sent c)) ∷ codes " sent" ∷ [])
    ∷ []

-- the row of a channel, with what its limits are worth above it; nothing for a channel without a limit
unfoldable pub channel_row : Drawn → ℕ → List Shape
channel_row p c =
    if has_limit p.problem c == 0 then []
    else Outline p (ChannelCounts c) ∷ Outline p (Sent c) ∷ frame p.problem (channel_base p.problem c) THIN
    ∷ channel_words p c ++ saves p (Raised c) (channel_base p.problem c - RAISED_AT)

-- ---- the rows of the stores

-- the identifier of a store
abbrev pub name : Dumping → ℕ → List ℕ
name q s = escaped (id_text (row q s).id)

-- what a store holds at the beginning and what comes to it
unfoldable pub coming_to : Drawn → ℕ → ℕ
coming_to p s = start p.problem s + sum_by (arrivals p.problem s) (steps p.problem)

-- what comes to all stores
abbrev pub all_coming : Drawn → ℕ
all_coming p = sum_by (coming_to p) (stores p.problem)

-- what a store loses, in the row on this line
unfoldable pub store_loss : Drawn → ℕ → ℕ → Shape
store_loss p s base =
    let lost = total_of p (Lost s) in
    Label (if lost == 0 then style.Total else style.Loss) (right p.problem) (base - 18)
    (if lost == 0 then codes "nothing lost" ∷ [] else grouped lost ∷ codes " lost" ∷ [])

-- a line at its size of each step; nothing where it has one size
unfoldable pub size_line : Drawn → ℕ → List Shape
size_line p s = if is_some (one_size p.problem s) then [] else Outline p (Size s) ∷ []

-- its stretches, what stands in it, and its size
unfoldable pub store_bars : Drawn → ℕ → List Shape
store_bars p s =
    Outline p (Inner s) ∷ Outline p (Last s) ∷ Outline p (LeftAndSent s) ∷ Outline p (Left s) ∷ size_line p s

-- its size and its channel
unfoldable pub store_side : ℕ → ℕ → ℕ → Shape
store_side y size channel = side y (grouped size ∷ codes ", channel " ∷ decimal channel ∷ [])

-- a store with its size and channel, what it loses, and what comes to it
unfoldable pub store_words : Drawn → ℕ → ℕ → List Shape
store_words p s base =
    Label style.Name NAME_AT (base - 18) (name p.problem s ∷ [])
    ∷ store_side (base - 4) (setup_size p.problem s) (channel p.problem s)
    ∷ store_loss p s base
    ∷ total p.problem (base - 4) (codes "of " ∷ grouped (coming_to p s) ∷ [])
    ∷ []

-- what a larger store saves at most, above its name; nothing where that is none, or is not known
unfoldable pub larger : Drawn → ℕ → ℕ → List Shape
larger p s y =
    let saved = size_worth_of p.worth s in
    if saved == 0 then [] else side y (SAVES.now ∷ grouped saved ∷ []) ∷ []

unfoldable pub store_row : Drawn → ℕ → List Shape
store_row p s =
    store_bars p s ++ Outline p (Lost s) ∷ frame p.problem (store_base p.problem s) TALL
    ∷ store_words p s (store_base p.problem s) ++ larger p s (store_base p.problem s - LARGER_AT)

-- ---- ticks

-- the middle of a step
abbrev pub middle : Dumping → ℕ → ℕ
middle q t = edge q (t - 1) + step_width q / 2

-- the number of a step over its middle and a line from it through all rows, where a tick is due
unfoldable pub tick : Drawn → ℕ → List Shape
tick p t =
    if (t == 1) || (t % tick_every (length p.problem.windows) == 0)
    then Label style.Tick (middle p.problem t) TICK_AT (decimal t ∷ [])
    ∷ Guide (middle p.problem t) (TICK_AT + 4) (bottom p.problem) ∷ []
    else []

-- the keys, the ticks, and the rows: the windows, with what they are worth above them, the channels and the stores
unfoldable pub rows : Drawn → List Shape
rows p =
    legend p ++ side TICK_AT (codes "step" ∷ []) ∷ flat_map (tick p) (steps p.problem) ++ windows_row p
    ++ saves p Worth SAVED_AT ++ flat_map (channel_row p) (channels p.problem)
    ++ flat_map (store_row p) (stores p.problem)
