-- The edges of a mission's steps.
use Rattle.std.specs.Prelude.{◌≡◌, ◌↔◌, ℕ, ◌-◌, ◌≤◌, Bool, nat_lt, ◌&&◌, List, [], ◌∷◌, ◌++◌, length, filter, Contains}
use Rattle.std.specs.Prelude.{slice_index}
use Rattle.std.specs.List.{flat_map, list_any}
use Rattle.std.specs.List.Sorted.{IsStrictlyIncreasing}
use Rattle.mm_mission.specs.declared.parts.Span.{Span}
use Rattle.mm_mission.specs.declared.parts.Pass.{Pass}
use Rattle.mm_mission.specs.declared.parts.Observation.{Observation}
use Rattle.mm_mission.specs.Mission.{MissionRows}

-- when a span begins and ends
abbrev pub ends : Span → List ℕ
ends s = s.begin ∷ s.end ∷ []

abbrev pub pass_ends : List Pass → List ℕ
pass_ends passes = flat_map (λ p. ends p.span) passes

abbrev pub observation_ends : List Observation → List ℕ
observation_ends observations = flat_map (λ o. ends o.span) observations

-- whether a time lies in a span, and not at its begin or end
abbrev pub is_in : ℕ → Span → Bool
is_in t s = nat_lt s.begin t && nat_lt t s.end

-- whether a time lies so in a pass
abbrev pub is_inside : List Pass → ℕ → Bool
is_inside passes t = list_any (λ p. is_in t p.span) passes

-- when something changes that can be sent, in no order: the mission and each pass begins or ends, and an observation
-- begins or ends inside a pass
abbrev pub moments : MissionRows → List ℕ
moments m =
    0 ∷ m.lasts ∷ (pass_ends m.passes ++ filter (is_inside m.passes) (observation_ends m.observations))

-- rising times from the mission's begin to its end
pub record AreTimes (m : MissionRows) (edges : List ℕ) : Type 0 where
  pub some : 1 ≤ length edges
  pub first : slice_index edges 0 ≡ 0
  pub last : slice_index edges (length edges - 1) ≡ m.lasts
  pub rising : IsStrictlyIncreasing edges

-- the moments at which something changes that can be sent, each once, in rising order
pub record AreEdges (m : MissionRows) (edges : List ℕ) : Type 0 where
  pub times : AreTimes m edges
  pub each : (t : ℕ) → Contains edges t ↔ Contains (moments m) t
