-- The stretches of a cut: runs of steps of one store each, both ends included.
use Rattle.std.specs.Prelude.{◌≡◌, ℕ, ◌+◌, ◌<◌, ◌≤◌, Bool, ◌&&◌, ◌==◌, nat_le, nat_lt, List, length, All, AllPairs, ◌⊎◌}
use Rattle.std.specs.List.{list_any}
use Rattle.mm_problem.specs.declared.come.Arrivals.{Arrivals}
use Rattle.mm_problem.specs.declared.come.Arrivals.TheVariants.{Before, During}
use Rattle.mm_problem.specs.Dumping.{Dumping, place, channel}
use Rattle.mm_plan.specs.declared.stretch.Stretch.{Stretch}

-- the place of a stretch's store, and the number of stores where the problem has no such store
abbrev pub store_of : Dumping → Stretch → ℕ
store_of q d = place q d.store

-- the channel of its store
abbrev pub channel_of : Dumping → Stretch → ℕ
channel_of q d = channel q (store_of q d)

-- whether a step is one of the stretch's
abbrev pub covers : Stretch → ℕ → Bool
covers d t = nat_le d.first t && nat_le t d.last

-- the step after the inner steps of a stretch: its last step where arrivals come before dumps, else the one after it
abbrev pub inner_end : Arrivals → Stretch → ℕ
inner_end Before d = d.last
inner_end During d = d.last + 1

-- whether the step is an inner step of the stretch: one of its steps, and its last only where arrivals come during dumps
abbrev pub goes_past : Dumping → ℕ → Stretch → Bool
goes_past q t d = nat_le d.first t && nat_lt t (inner_end q.come d)

-- whether, besides, its store is of the channel
abbrev pub goes_past_on : Dumping → ℕ → ℕ → Stretch → Bool
goes_past_on q t c d = goes_past q t d && (channel_of q d == c)

-- whether a step is inner in some stretch
abbrev pub is_inner : Dumping → List Stretch → ℕ → Bool
is_inner q ds t = list_any (goes_past q t) ds

-- whether a step is inner in some stretch of a store of the channel
abbrev pub is_inner_on : Dumping → List Stretch → ℕ → ℕ → Bool
is_inner_on q ds t c = list_any (goes_past_on q t c) ds

-- a stretch of a store of the problem, with steps of the problem in order
pub record IsStretch (q : Dumping) (d : Stretch) : Type 0 where
  pub store : store_of q d < length q.rows
  pub first : 1 ≤ d.first
  pub order : d.first ≤ d.last
  pub last : d.last ≤ length q.windows

-- two stretches share no step of one store
abbrev pub AreApart : Stretch → Stretch → Type 0
AreApart d e = d.store ≡ e.store → (d.last < e.first) ⊎ (e.last < d.first)

-- a stretch that shares no step with an earlier one of its store
pub record IsStretchAfter (q : Dumping) (earlier : List Stretch) (d : Stretch) : Type 0 where
  pub is : IsStretch q d
  pub apart : All (λ e. AreApart e d) earlier

-- stretches of the problem, no two of which share a step of one store
pub record AreStretches (q : Dumping) (ds : List Stretch) : Type 0 where
  pub each : All (IsStretch q) ds
  pub apart : AllPairs AreApart ds
