-- The steps of a cut that count by channels.
use Rattle.std.specs.Prelude.{◌≢◌, ℕ, Bool, ◌==◌, List, All, AllPairs, IsTrue, IsFalse, IsSome}
use Rattle.std.specs.List.{list_any}
use Rattle.mm_problem.specs.Dumping.{Dumping, limit}
use Rattle.mm_plan.specs.declared.stretch.Stretch.{Stretch}
use Rattle.mm_cut.specs.Stretches.{channel_of, goes_past, is_inner}

-- whether a step is one of those listed
abbrev pub is_listed : List ℕ → ℕ → Bool
is_listed ts t = list_any (λ k. k == t) ts

-- where the step is inner in the stretch, the channel of its store has a limit in it
abbrev pub IsLimited : Dumping → ℕ → Stretch → Type 0
IsLimited q t d = IsTrue (goes_past q t d) → IsSome (limit q (channel_of q d) t)

-- an inner step that can be counted by channels: each store that is inner in it has a channel with a limit in it
pub record IsCounted (q : Dumping) (ds : List Stretch) (t : ℕ) : Type 0 where
  pub inner : IsTrue (is_inner q ds t)
  pub limited : All (IsLimited q t) ds

-- such a step that is none of the earlier ones
pub record IsCountedAfter (q : Dumping) (ds : List Stretch) (earlier : List ℕ) (t : ℕ) : Type 0 where
  pub is : IsCounted q ds t
  pub new : IsFalse (is_listed earlier t)

-- such steps, none twice
pub record AreCounted (q : Dumping) (ds : List Stretch) (ts : List ℕ) : Type 0 where
  pub each : All (IsCounted q ds) ts
  pub once : AllPairs ◌≢◌ ts
