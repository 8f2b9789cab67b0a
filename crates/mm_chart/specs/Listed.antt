-- What the words of a chart show: the sum is the cut's bound, and only what they list can help.
use Rattle.std.specs.Prelude.{◌≡◌, ◌⊎◌, ℕ, ◌+◌, ◌<◌, ◌≤◌, Bool, ◌||◌, length, IsTrue, IsSome, ℤ, pos, ◌-ℤ◌}
use Rattle.mm_problem.specs.Dumping.{Dumping, row, place, size, start, channel, limit, window, arrivals}
use Rattle.mm_plan.specs.Volumes.{Amounts, loss}
use Rattle.mm_plan.specs.Fit.{Fits}
use Rattle.mm_cut.specs.Cuts.{coming_sum, held_sum, windows_sum, limits_sum, limit_or_0}
use Rattle.mm_cut.specs.declared.verdict.Verdict.TheVariants.{NotShown, Least, LeastInOrder}
use Rattle.mm_chart.specs.declared.series.Series.TheVariants.{WindowCounts, ChannelCounts, LimitsCount, Inner, Last}
use Rattle.mm_chart.specs.Picture.{Drawn, IsDrawn, cut, counts}
use Rattle.mm_chart.specs.Series.{has_stretch}
use Rattle.mm_chart.specs.Words.{is_marked}

-- what comes, less what the stores hold, less what leaves by windows and by limits: the numbers of the sum
abbrev pub sum_of : Drawn → ℤ
sum_of p =
    pos (coming_sum p.problem (cut p))
    -ℤ pos (held_sum p.problem (cut p)
    + (windows_sum p.problem (cut p) (counts p) + limits_sum p.problem (cut p) (counts p)))

-- the number after the sum is what the sum gives
pub record AddsUp (p : Drawn) : Type 0 where
  pub least : (n : ℕ) → p.verdict ≡ Least n → sum_of p ≡ pos n
  pub in_order : (n : ℕ) → p.verdict ≡ LeastInOrder n → sum_of p ≡ pos n
  pub not_shown : (n : ℕ) (m : ℤ) → p.verdict ≡ NotShown n m → sum_of p ≡ m

abbrev pub SumsAddUp : Type 0
SumsAddUp = (p : Drawn) → IsDrawn p → AddsUp p

-- whether a step of a store is shaded
abbrev pub is_shaded : Drawn → ℕ → ℕ → Bool
is_shaded p s t = is_marked p (Inner s) t || is_marked p (Last s) t

-- where another problem has a store of the picture
abbrev pub place_of : Drawn → Dumping → ℕ → ℕ
place_of p r s = place r (row p.problem s).id

-- another problem helps a store with a stretch nowhere: it has no fewer blocks where it is shaded, no larger size in
-- the last step of a stretch, and no other channel where it is shaded in a step that counts by channels
pub record KeepsStore (p : Drawn) (r : Dumping) (s : ℕ) : Type 0 where
  pub there : place_of p r s < length r.rows
  pub start : IsTrue (is_shaded p s 1) → start p.problem s ≤ start r (place_of p r s)
  pub arrivals : (t : ℕ) → IsTrue (is_shaded p s t) → arrivals p.problem s t ≤ arrivals r (place_of p r s) t
  pub size : (t : ℕ) → IsTrue (is_marked p (Last s) t) → size r (place_of p r s) t ≤ size p.problem s t
  pub channel : (t : ℕ) → IsTrue (is_marked p LimitsCount t) → IsTrue (is_marked p (Inner s) t)
      → channel r (place_of p r s) ≡ channel p.problem s

-- another problem helps nowhere that the words list, whatever else it has
pub record KeepsListed (p : Drawn) (r : Dumping) : Type 0 where
  pub come : r.come ≡ p.problem.come
  pub steps : length r.windows ≡ length p.problem.windows
  pub channels : length r.limits ≡ length p.problem.limits
  -- the stores that the words name, as they have a stretch
  pub stores : (s : ℕ) → s < length p.problem.rows → IsTrue (has_stretch p s) → KeepsStore p r s
  pub windows : (t : ℕ) → IsTrue (is_marked p WindowCounts t) → window r t ≤ window p.problem t
  pub limited : (t c : ℕ) → IsTrue (is_marked p LimitsCount t) → IsTrue (is_marked p (ChannelCounts c) t)
      → IsSome (limit r c t)
  pub limits : (t c : ℕ) → IsTrue (is_marked p LimitsCount t) → IsTrue (is_marked p (ChannelCounts c) t)
      → limit_or_0 r t c ≤ limit_or_0 p.problem t c

-- the chart says that no plan loses fewer than n
abbrev pub SaysLeast : Drawn → ℕ → Type 0
SaysLeast p n = (p.verdict ≡ Least n) ⊎ (p.verdict ≡ LeastInOrder n)

-- where the chart says that no plan loses fewer, no plan that fits such a problem does
abbrev pub OnlyListedHelps : Type 0
OnlyListedHelps =
    (p : Drawn) (n : ℕ) (r : Dumping) (x : Amounts) → IsDrawn p → SaysLeast p n → KeepsListed p r → Fits r x
    → n ≤ loss r x
