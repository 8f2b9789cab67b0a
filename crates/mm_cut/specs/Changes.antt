-- Changes of a problem, seen by a cut: what it counts, and what it passes over.
use Rattle.std.specs.Prelude.{◌≡◌, ℕ, ◌<◌, ◌≤◌, List, length, All, IsTrue, IsSome, pos, ◌≤ℤ◌}
use Rattle.mm_problem.specs.Dumping.{Dumping, size, start, limit, window, arrivals}
use Rattle.mm_plan.specs.Volumes.{Amounts, loss}
use Rattle.mm_plan.specs.Fit.{Fits}
use Rattle.mm_plan.specs.declared.stretch.Stretch.{Stretch}
use Rattle.mm_cut.specs.Stretches.{store_of, channel_of, covers, goes_past, is_inner_on}
use Rattle.mm_cut.specs.Counts.{is_listed}
use Rattle.mm_cut.specs.Cuts.{IsCut, limit_or_0, counts_window, bound}

-- what a cut with the counts ts counts of a stretch: what comes in stands in R from q to r, and the size from r to q
pub record ChangesStretch (R : ℕ → ℕ → Type 0) (q r : Dumping) (ts : List ℕ) (d : Stretch) : Type 0 where
  -- the store is there in r, wherever it stands
  pub store : store_of r d < length r.rows
  pub start : d.first ≡ 1 → R (start q (store_of q d)) (start r (store_of r d))
  pub arrivals : (t : ℕ) → IsTrue (covers d t) → R (arrivals q (store_of q d) t) (arrivals r (store_of r d) t)
  pub size : R (size r (store_of r d) d.last) (size q (store_of q d) d.last)
  -- where a step of it is counted by channels, it has the same channel
  pub channel : (t : ℕ) → IsTrue (is_listed ts t) → IsTrue (goes_past q t d) → channel_of r d ≡ channel_of q d

-- what a cut counts of a problem, in R from q to r; nothing is said of what it does not count
pub record Changes (R : ℕ → ℕ → Type 0) (q r : Dumping) (ds : List Stretch) (ts : List ℕ) : Type 0 where
  pub come : r.come ≡ q.come
  pub steps : length r.windows ≡ length q.windows
  pub channels : length r.limits ≡ length q.limits
  pub stretches : All (ChangesStretch R q r ts) ds
  -- the windows of the inner steps that count by their windows
  pub windows : (t : ℕ) → IsTrue (counts_window q ds ts t) → R (window r t) (window q t)
  -- in the steps that count by channels, the limits of the channels of the stores that are inner there
  pub limited : (t c : ℕ) → IsTrue (is_listed ts t) → IsTrue (is_inner_on q ds t c) → IsSome (limit r c t)
  pub limits : (t c : ℕ) → IsTrue (is_listed ts t) → IsTrue (is_inner_on q ds t c) → R (limit_or_0 r t c) (limit_or_0 q t c)

-- r has nowhere fewer arrivals, a larger size, a wider window or a higher limit than q, as far as the cut counts
abbrev pub HelpsNowhere : Dumping → Dumping → List Stretch → List ℕ → Type 0
HelpsNowhere q r ds ts = Changes ◌≤◌ q r ds ts

-- they agree in all that the cut counts
abbrev pub AgreeInCut : Dumping → Dumping → List Stretch → List ℕ → Type 0
AgreeInCut q r ds ts = Changes ◌≡◌ q r ds ts

-- two problems that agree in all that a cut counts give it the same bound
abbrev pub CutsCountAlike : Type 0
CutsCountAlike =
    (q r : Dumping) (ds : List Stretch) (ts : List ℕ) → IsCut q ds ts → AgreeInCut q r ds ts → IsCut r ds ts × (bound r ds ts ≡ bound q ds ts)

-- only what a cut counts can help: no plan that fits a problem which helps nowhere there loses less than the cut's bound
abbrev pub OnlyCountedHelps : Type 0
OnlyCountedHelps =
    (q r : Dumping) (ds : List Stretch) (ts : List ℕ) (x : Amounts) → IsCut q ds ts → HelpsNowhere q r ds ts → Fits r x → bound q ds ts ≤ℤ pos (loss r x)
