-- The edges of the steps of several transmitters.
use Rattle.std.specs.Prelude.{ℕ, ◌↔◌, List, All, Contains}
use Rattle.std.specs.List.{flat_map}
use Rattle.mm_mission.specs.Edges.{AreTimes, moments}
use Rattle.mm_mission.specs.Mission.{MissionRows}

-- rising times from the begin to the end of each transmitter's mission
abbrev pub AreTimesOf : List MissionRows → List ℕ → Type 0
AreTimesOf missions edges = All (λ own. AreTimes own edges) missions

-- when something changes that some transmitter can send, each moment once, in rising order
pub record AreEdgesOf (missions : List MissionRows) (edges : List ℕ) : Type 0 where
  pub times : AreTimesOf missions edges
  pub each : (t : ℕ) → Contains edges t ↔ Contains (flat_map moments missions) t
