-- A timeline in whatever steps, in exact numbers: parts of units, so small that all numbers are whole.
use Rattle.std.specs.Prelude.{◌≡◌, ℕ, zero, suc, ◌+◌, ◌-◌, ◌*◌, ◌<◌, ◌≤◌, min, List, length, filter, slice_index}
use Rattle.std.specs.Prelude.{Contains, IsFalse, Option}
use Rattle.std.specs.List.{sum_by, range_with_len}
use Rattle.mm_mission.specs.declared.parts.Span.{Span}
use Rattle.mm_mission.specs.declared.parts.Pass.{Pass}
use Rattle.mm_mission.specs.Mission.{MissionRows, store_at}
use Rattle.mm_mission.specs.Flows.{unit_octets, is_on, pace_on, come_octets, come_divisor}
use Rattle.mm_mission.specs.Edges.{AreTimes}
use Rattle.mm_mission.specs.Timeline.{is_in_pass}
use Rattle.mm_mission.specs.Laws.{LieIn, time_of, over}

-- the numbers of a mission and of a timeline, in parts of the stores' units
pub record Exact : Type 0 where
  -- when its steps begin and end
  pub times : List ℕ
  -- as many parts are a unit
  pub parts : ℕ
  -- of each store
  pub size : ℕ → ℕ
  pub start : ℕ → ℕ
  -- what has come into a store by each of these times
  pub come : ℕ → ℕ → ℕ
  -- what is sent of a store in each step
  pub sent : ℕ → ℕ → ℕ

-- times from the mission's begin to its end, and exactly what it says of sizes, starts and observations
pub record IsExact (m : MissionRows) (e : Exact) : Type 0 where
  pub times : AreTimes m e.times
  pub size : (s : ℕ) → s < length m.stores → e.size s * (store_at m s).unit ≡ e.parts * (store_at m s).size
  pub start : (s : ℕ) → s < length m.stores → e.start s * (store_at m s).unit ≡ e.parts * (store_at m s).start
  pub come : (s k : ℕ) → s < length m.stores → k < length e.times
      → e.come s k * come_divisor unit_octets (store_at m s) ≡ e.parts * come_octets m s (slice_index e.times k)

-- ---- rates

-- what is sent in a step: in all, or on a channel
abbrev pub sent_on : MissionRows → Exact → Option ℕ → ℕ → ℕ
sent_on m e channel k =
    sum_by (λ s. e.sent s k) (filter (λ s. is_on channel (store_at m s)) (range_with_len 0 (length m.stores)))

-- a step, as a span
abbrev pub step_span : List ℕ → ℕ → Span
step_span times k = record { begin = slice_index times (k - 1); end = slice_index times k }

-- in a step that lies in a pass no more is sent than the pass can send in that time, in all and on each channel, and in
-- other steps nothing
pub record KeepsRates (m : MissionRows) (e : Exact) : Type 0 where
  pub inside : (p : Pass) (channel : Option ℕ) (k : ℕ) → Contains m.passes p → 1 ≤ k → LieIn p.span e.times (k - 1) 1
      → sent_on m e channel k * (pace_on m channel p).divisor
      ≤ e.parts * ((pace_on m channel p).octets * time_of e.times (k - 1) 1)
  pub outside : (s k : ℕ) → 1 ≤ k → k < length e.times → IsFalse (is_in_pass m.passes (step_span e.times k))
      → e.sent s k ≡ 0

-- ---- losses

-- what comes into a store in a step
abbrev pub comes : Exact → ℕ → ℕ → ℕ
comes e s k = e.come s k - e.come s (k - 1)

-- what a store holds as a step ends: what it held and what came, less what was sent, at most its size
unfoldable pub holds : Exact → ℕ → ℕ → ℕ
holds e s zero = e.start s
holds e s (suc k) = min (e.size s) (holds e s k + comes e s (suc k) - e.sent s (suc k))

-- what it loses in a step: what is above its size
abbrev pub loses : Exact → ℕ → ℕ → ℕ
loses e s k = holds e s (k - 1) + comes e s k - e.sent s k - e.size s

-- what all stores lose in all steps
abbrev pub all_lost : MissionRows → Exact → ℕ
all_lost m e = sum_by (λ s. over (loses e s) 0 (length e.times - 1)) (range_with_len 0 (length m.stores))
