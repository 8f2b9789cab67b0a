-- The numbers that a chart draws: one for each step.
use Rattle.std.specs.Prelude.{ℕ, Option, Some, None, slice_index_or, ◌+◌, ◌-◌, ◌*◌, ◌/◌, ◌<◌, min, max, nat_le, nat_lt}
use Rattle.std.specs.Prelude.{Bool, ◌==◌, ◌&&◌, if◌then◌else◌, List, [], ◌∷◌, length}
use Rattle.std.specs.List.{sum_by, list_any}
use Rattle.mm_base.specs.declared.limits.TheConstants.{CHANNELS}
use Rattle.mm_base.specs.Grid.{grid_place}
use Rattle.mm_problem.specs.Dumping.{Dumping, setup_size, size, window, stores, stores_of, steps, channels}
use Rattle.mm_plan.specs.Volumes.{written, left, lost}
use Rattle.mm_cut.specs.Stretches.{store_of, inner_end, goes_past, is_inner_on}
use Rattle.mm_cut.specs.Cuts.{limit_or_0, counts_window, counts_limits}
use Rattle.mm_chart.specs.declared.series.Series.{Series}
use Rattle.mm_chart.specs.declared.series.Series.TheVariants.{WindowCounts, Window, Used, ChannelCounts, Sent}
use Rattle.mm_chart.specs.declared.series.Series.TheVariants.{LimitsCount, CountedWindow, Inner, Last, LeftAndSent}
use Rattle.mm_chart.specs.declared.series.Series.TheVariants.{Left, Lost, Size, Worth, Raised}
use Rattle.mm_chart.specs.Picture.{Drawn, WorthLists, amounts, cut, counts}

abbrev pub one_if : Bool → ℕ
one_if b = if b then 1 else 0

-- what leaves a store in a step: the amount of the plan, or all that can leave where that is less
abbrev pub sent : Drawn → ℕ → ℕ → ℕ
sent p t s = min (amounts p s t) (written p.problem (amounts p) s t)

-- whether a step counts by the limit of this channel
abbrev pub counts_channel : Drawn → ℕ → ℕ → Bool
counts_channel p c t = counts_limits p.problem (cut p) (counts p) t && is_inner_on p.problem (cut p) t c

-- whether it is an inner step of a stretch of the store
abbrev pub is_inner_of : Drawn → ℕ → ℕ → Bool
is_inner_of p s t = list_any (λ d. (store_of p.problem d == s) && goes_past p.problem t d) (cut p)

-- whether it is the last step of a stretch of the store
abbrev pub is_last_of : Drawn → ℕ → ℕ → Bool
is_last_of p s t = list_any (λ d. (store_of p.problem d == s) && (d.last == t)) (cut p)

-- whether the store has a stretch
abbrev pub has_stretch : Drawn → ℕ → Bool
has_stretch p s = list_any (λ d. store_of p.problem d == s) (cut p)

-- whether a stretch has an inner step
abbrev pub has_inner : Drawn → Bool
has_inner p = list_any (λ d. nat_lt d.first (inner_end p.problem.come d)) (cut p)

-- what the window of a step is worth, and 0 where that is not known
abbrev pub worth_of : Option WorthLists → ℕ → ℕ
worth_of (Some w) t = slice_index_or w.windows (t - 1) 0
worth_of None t = 0

-- what the limit of this step alone is worth, and 0 where the channel has none
abbrev pub step_limit_worth : List ℕ → ℕ → ℕ → ℕ
step_limit_worth ns c t = slice_index_or ns (grid_place CHANNELS t c) 0

-- what one higher limit of a channel is worth in a step: that of the setup, or that of this step alone, whichever is
-- worth more
abbrev pub limit_worth_of : Option WorthLists → ℕ → ℕ → ℕ
limit_worth_of (Some w) c t = max (slice_index_or w.limits c 0) (step_limit_worth w.step_limits c t)
limit_worth_of None c t = 0

-- what the size of a store is worth, and 0 where that is not known
abbrev pub size_worth_of : Option WorthLists → ℕ → ℕ
size_worth_of (Some w) s = slice_index_or w.sizes s 0
size_worth_of None s = 0

-- the store or the channel is there
abbrev pub IsSeries : Drawn → Series → Type 0
IsSeries p (Inner s) = s < length p.problem.rows
IsSeries p (Last s) = s < length p.problem.rows
IsSeries p (LeftAndSent s) = s < length p.problem.rows
IsSeries p (Left s) = s < length p.problem.rows
IsSeries p (Lost s) = s < length p.problem.rows
IsSeries p (Size s) = s < length p.problem.rows
IsSeries p _ = Unit {0}

-- the number of a step
abbrev pub amount_of : Drawn → Series → ℕ → ℕ
amount_of p WindowCounts t = one_if (counts_window p.problem (cut p) (counts p) t)
amount_of p Window t = window p.problem t
amount_of p Used t = sum_by (sent p t) (stores p.problem)
amount_of p CountedWindow t = if counts_window p.problem (cut p) (counts p) t then window p.problem t else 0
amount_of p (ChannelCounts c) t = one_if (counts_channel p c t)
amount_of p (Sent c) t = sum_by (sent p t) (stores_of p.problem c)
amount_of p LimitsCount t = one_if (counts_limits p.problem (cut p) (counts p) t)
amount_of p (Inner s) t = one_if (is_inner_of p s t)
amount_of p (Last s) t = one_if (is_last_of p s t)
amount_of p (LeftAndSent s) t = left p.problem (amounts p) s t + sent p t s
amount_of p (Left s) t = left p.problem (amounts p) s t
amount_of p (Lost s) t = lost p.problem (amounts p) s t
amount_of p (Size s) t = size p.problem s t
amount_of p Worth t = worth_of p.worth t
amount_of p (Raised c) t = limit_worth_of p.worth c t

-- the number of a step, and 0 at what is no step
abbrev pub amount_at : Drawn → Series → ℕ → ℕ
amount_at p x t = if nat_le 1 t && nat_le t (length p.problem.windows) then amount_of p x t else 0

-- the sum over all steps
abbrev pub total_of : Drawn → Series → ℕ
total_of p x = sum_by (amount_of p x) (steps p.problem)

-- the largest of what f gives for these numbers, and 0 where there is none
abbrev pub largest : (ℕ → ℕ) → List ℕ → ℕ
largest f [] = 0
largest f (t ∷ ts) = max (f t) (largest f ts)

-- the largest number of a step
abbrev pub most_of : Drawn → Series → ℕ
most_of p x = largest (amount_of p x) (steps p.problem)

-- the most that a store loses in a step
abbrev pub most_lost_by : Drawn → ℕ → ℕ
most_lost_by p s = most_of p (Lost s)

-- the most that any store loses in a step
abbrev pub most_lost : Drawn → ℕ
most_lost p = largest (most_lost_by p) (stores p.problem)

-- the most that one higher limit of a channel saves
abbrev pub most_raised_by : Drawn → ℕ → ℕ
most_raised_by p c = most_of p (Raised c)

-- the most that one larger window or limit saves
abbrev pub most_saved : Drawn → ℕ
most_saved p = max (largest (most_raised_by p) (channels p.problem)) (most_of p Worth)

-- the greatest limit of a channel in a step
abbrev pub most_limit : Dumping → ℕ → ℕ
most_limit q c = largest (λ t. limit_or_0 q t c) (steps q)

-- the amount that is drawn in full height: the losses of all stores have one scale, and so has all that is saved
abbrev pub whole_of : Drawn → Series → ℕ
whole_of p Window = most_of p Window
whole_of p Used = most_of p Window
whole_of p (Sent c) = most_limit p.problem c
whole_of p (LeftAndSent s) = setup_size p.problem s
whole_of p (Left s) = setup_size p.problem s
whole_of p (Lost s) = most_lost p
whole_of p (Size s) = setup_size p.problem s
whole_of p Worth = most_saved p
whole_of p (Raised c) = most_saved p
whole_of p _ = 1

-- an amount in a scale in which the whole has this height: amount * height / whole, rounded up, and at most the height
abbrev pub scaled : ℕ → ℕ → ℕ → ℕ
scaled height whole amount = if whole == 0 then 0 else min height ((amount * height + (whole - 1)) / whole)
