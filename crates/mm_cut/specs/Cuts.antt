-- Cuts, which show that no plan loses less than their bound.
use Rattle.std.specs.Prelude.{ℕ, ◌+◌, ◌*◌, ◌<◌, ◌≤◌, Bool, ◌==◌, ◌&&◌, not, if◌then◌else◌, List, length, All, filter, unwrap_or, ℤ, pos, ◌-ℤ◌, ◌≤ℤ◌}
use Rattle.std.specs.List.{sum_by}
use Rattle.mm_base.specs.declared.limits.TheConstants.{MAX_STORES, MAX_STEPS}
use Rattle.mm_problem.specs.Dumping.{Dumping, IsDumping, size, start, limit, window, arrivals, steps, channels}
use Rattle.mm_plan.specs.Volumes.{Amounts, loss, first_loss}
use Rattle.mm_plan.specs.Fit.{Fits}
use Rattle.mm_plan.specs.declared.stretch.Stretch.{Stretch}
use Rattle.mm_cut.specs.Stretches.{store_of, covers, is_inner, is_inner_on, AreStretches}
use Rattle.mm_cut.specs.Counts.{is_listed, AreCounted}

-- a cut: stretches, and the steps among them that count by channels
pub record IsCut (q : Dumping) (ds : List Stretch) (ts : List ℕ) : Type 0 where
  pub stretches : AreStretches q ds
  pub counted : AreCounted q ds ts

-- what the store of a stretch holds before the stretch, as far as the problem says it
abbrev pub opening : Dumping → Stretch → ℕ
opening q d = if d.first == 1 then start q (store_of q d) else 0

-- what it holds before and what arrives in its steps
abbrev pub coming : Dumping → Stretch → ℕ
coming q d = opening q d + sum_by (arrivals q (store_of q d)) (filter (covers d) (steps q))

-- the most that it holds in its last step
abbrev pub held : Dumping → Stretch → ℕ
held q d = size q (store_of q d) d.last

-- the limit in a step of a channel, 0 where it has none
abbrev pub limit_or_0 : Dumping → ℕ → ℕ → ℕ
limit_or_0 q t c = unwrap_or (limit q c t) 0

-- the limits in the step of the channels of the stores that are inner in it, each channel once
abbrev pub limit_sum : Dumping → List Stretch → ℕ → ℕ
limit_sum q ds t = sum_by (limit_or_0 q t) (filter (is_inner_on q ds t) (channels q))

-- the most that may leave the stores that are inner in the step
abbrev pub leaving : Dumping → List Stretch → List ℕ → ℕ → ℕ
leaving q ds ts t = if is_listed ts t then limit_sum q ds t else window q t

-- what may leave in all inner steps, each step once
abbrev pub leaving_sum : Dumping → List Stretch → List ℕ → ℕ
leaving_sum q ds ts = sum_by (leaving q ds ts) (filter (is_inner q ds) (steps q))

-- whether a step counts by its window: it is inner, and not counted by channels
abbrev pub counts_window : Dumping → List Stretch → List ℕ → ℕ → Bool
counts_window q ds ts t = is_inner q ds t && not (is_listed ts t)

-- whether it counts by the limits of channels
abbrev pub counts_limits : Dumping → List Stretch → List ℕ → ℕ → Bool
counts_limits q ds ts t = is_inner q ds t && is_listed ts t

-- what may leave in the steps that count by their windows
abbrev pub windows_sum : Dumping → List Stretch → List ℕ → ℕ
windows_sum q ds ts = sum_by (window q) (filter (counts_window q ds ts) (steps q))

-- what may leave in the steps that count by the limits of channels
abbrev pub limits_sum : Dumping → List Stretch → List ℕ → ℕ
limits_sum q ds ts = sum_by (limit_sum q ds) (filter (counts_limits q ds ts) (steps q))

-- what comes in over all stretches
abbrev pub coming_sum : Dumping → List Stretch → ℕ
coming_sum q ds = sum_by (coming q) ds

-- what may be held as the stretches end
abbrev pub held_sum : Dumping → List Stretch → ℕ
held_sum q ds = sum_by (held q) ds

-- what comes in over all stretches, less what may be held as they end and what may leave before
abbrev pub bound : Dumping → List Stretch → List ℕ → ℤ
bound q ds ts = pos (coming_sum q ds) -ℤ pos (held_sum q ds + leaving_sum q ds ts)

-- no plan that fits loses less than the bound of any cut
abbrev pub CutsBoundLosses : Type 0
CutsBoundLosses =
    (q : Dumping) (x : Amounts) (ds : List Stretch) (ts : List ℕ) → Fits q x → IsCut q ds ts → bound q ds ts ≤ℤ pos (loss q x)

-- a cut whose stretches are of the first stores
pub record IsFirstCut (k : ℕ) (q : Dumping) (ds : List Stretch) (ts : List ℕ) : Type 0 where
  pub cut : IsCut q ds ts
  pub first : All (λ d. store_of q d < k) ds

-- no plan that fits loses less of the first stores than the bound of any cut of them
abbrev pub FirstCutsBoundLosses : Type 0
FirstCutsBoundLosses =
    (k : ℕ) (q : Dumping) (x : Amounts) (ds : List Stretch) (ts : List ℕ) → Fits q x → IsFirstCut k q ds ts
    → bound q ds ts ≤ℤ pos (first_loss k q x)

-- a cut has at most one stretch for each store and step, and counts each step once at the most
abbrev pub CutsAreFew : Type 0
CutsAreFew =
    (q : Dumping) (ds : List Stretch) (ts : List ℕ) → IsDumping q → IsCut q ds ts → (length ds ≤ MAX_STEPS * MAX_STORES) × (length ts ≤ length q.windows)
