-- What each timeline loses.
use Rattle.std.specs.Prelude.{ℕ, ◌+◌, ◌*◌, ◌≤◌, ◌==◌, if◌then◌else◌, List, length, filter, Contains, pos, ◌≤ℤ◌}
use Rattle.std.specs.List.{sum_by}
use Rattle.mm_problem.specs.Dumping.{Dumping, channels, steps}
use Rattle.mm_plan.specs.declared.stretch.Stretch.{Stretch}
use Rattle.mm_cut.specs.Stretches.{is_inner, is_inner_on}
use Rattle.mm_cut.specs.Counts.{is_listed}
use Rattle.mm_cut.specs.Cuts.{IsCut, bound}
use Rattle.mm_mission.specs.Mission.{MissionRows, IsMission}
use Rattle.mm_mission.specs.Edges.{AreEdges}
use Rattle.mm_mission.specs.Planned.{IsProblemOf}
use Rattle.mm_mission.specs.Timeline.{is_in_pass}
use Rattle.mm_mission_laws.specs.Exact.{Exact, IsExact, step_span, KeepsRates, all_lost}

-- how many numbers of a stretch are rounded: what has come and the size, and at the mission's begin the start
abbrev pub stretch_roundings : Stretch → ℕ
stretch_roundings d = if d.first == 1 then 3 else 2

-- how many numbers of an inner step are: in a pass the window, or the limit of each channel that is counted
abbrev pub step_roundings : MissionRows → List ℕ → Dumping → List Stretch → List ℕ → ℕ → ℕ
step_roundings m edges q ds ts t =
    if is_in_pass m.passes (step_span edges t) then
    if is_listed ts t then length (filter (is_inner_on q ds t) (channels q)) else 1
    else 0

-- how many numbers of a cut are rounded, each by less than one unit
abbrev pub roundings : MissionRows → List ℕ → Dumping → List Stretch → List ℕ → ℕ
roundings m edges q ds ts =
    sum_by stretch_roundings ds + sum_by (step_roundings m edges q ds ts) (filter (is_inner q ds) (steps q))

-- a timeline whose steps begin and end at the edges too, and in between at whatever times, loses at least the bound of
-- each cut, less one unit for each number of the cut that is rounded
abbrev pub NoTimelineLosesLess : Type 0
NoTimelineLosesLess = (m : MissionRows) (edges : List ℕ) (q : Dumping) (ds : List Stretch) (ts : List ℕ) (e : Exact)
    (units : ℕ) → IsMission m → AreEdges m edges → IsProblemOf m edges q → IsCut q ds ts → IsExact m e → KeepsRates m e
    → ((t : ℕ) → Contains edges t → Contains e.times t) → pos units ≤ℤ bound q ds ts
    → e.parts * units ≤ all_lost m e + e.parts * roundings m edges q ds ts
