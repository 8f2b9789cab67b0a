-- What a store has room for at each time.
use Rattle.std.specs.Prelude.{ℕ, ◌+◌, ◌-◌, ◌*◌, ◌<◌, ◌≤◌, List, length, slice_index}
use Rattle.mm_problem.specs.Dumping.{Dumping, start, size}
use Rattle.mm_plan.specs.Volumes.{lost}
use Rattle.mm_mission.specs.declared.counter.Counter.TheVariants.{Come, Packets}
use Rattle.mm_mission.specs.Mission.{MissionRows, store_at, IsMission}
use Rattle.mm_mission.specs.Flows.{counted}
use Rattle.mm_mission.specs.Edges.{AreEdges}
use Rattle.mm_mission.specs.Planned.{IsProblemOf}
use Rattle.mm_mission.specs.Packets.{AreSentBy}
use Rattle.mm_mission.specs.Laws.{over, AreWithin, lost_in}

-- by a time in a step no more than this many whole units, or packets, of a store have begun to be sent: what the steps
-- before it sent, and of the step's amount as large a part as of its time
pub record HaveBegun (edges : List ℕ) (x : ℕ → ℕ → ℕ) (s t time units : ℕ) : Type 0 where
  pub begin : slice_index edges (t - 1) ≤ time
  pub end : time ≤ slice_index edges t
  pub sent : over (x s) 0 (t - 1) * (slice_index edges t - slice_index edges (t - 1))
      + x s t * (time - slice_index edges (t - 1))
      ≤ units * (slice_index edges t - slice_index edges (t - 1))

-- at each time, what a store held at first and the units that have come or are being received, less those that have
-- been sent or are being sent, are at most its size and what the plan loses up to the end of the step
abbrev pub UnitsHaveRoom : Type 0
UnitsHaveRoom = (m : MissionRows) (edges : List ℕ) (q : Dumping) (x : ℕ → ℕ → ℕ) (s t time units : ℕ) → IsMission m
    → AreEdges m edges → IsProblemOf m edges q → AreWithin m edges q x → s < length m.stores → 1 ≤ t → t < length edges
    → HaveBegun edges x s t time units
    → start q s + counted m (Come s) time ≤ size q s t + over (lost q x s) 0 t + units

-- the same in packets
abbrev pub PacketsHaveRoom : Type 0
PacketsHaveRoom = (m : MissionRows) (edges : List ℕ) (q : Dumping) (x packets : ℕ → ℕ → ℕ) (s t time count : ℕ)
    → IsMission m → AreEdges m edges → IsProblemOf m edges q → AreWithin m edges q x → AreSentBy m edges x packets
    → s < length m.stores → 1 ≤ t → t < length edges → HaveBegun edges packets s t time count
    → (store_at m s).start + counted m (Packets s) time
    ≤ (store_at m s).size + over (lost_in m edges x s) 0 t + count
