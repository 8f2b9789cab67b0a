-- What a plan does to a store in packets: a dump of a unit whose last packets have not come sends those that have.
use Rattle.std.specs.Prelude.{◌≡◌, ℕ, zero, suc, ◌+◌, ◌-◌, ◌*◌, ◌<◌, ◌≤◌, min, List, length, map, slice_index_or}
use Rattle.std.specs.List.{flat_map, range_with_len}
use Rattle.mm_mission.specs.declared.counter.Counter.TheVariants.{Packets}
use Rattle.mm_mission.specs.declared.packets.PacketStep.{PacketStep}
use Rattle.mm_mission.specs.declared.parts.Store.{Store}
use Rattle.mm_mission.specs.Mission.{MissionRows, store_at}
use Rattle.mm_mission.specs.Flows.{counted}
use Rattle.mm_mission.specs.Planned.{growth}

-- what a step does to a store that holds so many packets, into which so many arrive, and which is to send so many units
abbrev pub step_of : Store → ℕ → ℕ → ℕ → PacketStep
step_of s held arrived units =
    let there = held + arrived in
    let dumped = min (units * s.unit) there in
    let lost = there - dumped - s.size in
    record { arrived = arrived; lost = lost; dumped = dumped; held = there - dumped - lost }

-- what is held as a step ends, by what arrives and what is to be sent in each step; step 0 ends as the mission begins
unfoldable pub held : Store → (ℕ → ℕ) → (ℕ → ℕ) → ℕ → ℕ
held s arrived units zero = s.start
held s arrived units (suc t) = (step_of s (held s arrived units t) (arrived (suc t)) (units (suc t))).held

-- ---- a plan of a mission: how many units are to be sent of each store in each step

-- a packet that has begun to come has arrived
abbrev pub arrived_in : MissionRows → List ℕ → ℕ → ℕ → ℕ
arrived_in m edges s t = growth (counted m (Packets s)) edges t

abbrev pub held_by : MissionRows → List ℕ → (ℕ → ℕ → ℕ) → ℕ → ℕ → ℕ
held_by m edges x s t = held (store_at m s) (arrived_in m edges s) (x s) t

-- what a step does to a store
abbrev pub step_in : MissionRows → List ℕ → (ℕ → ℕ → ℕ) → ℕ → ℕ → PacketStep
step_in m edges x s t = step_of (store_at m s) (held_by m edges x s (t - 1)) (arrived_in m edges s t) (x s t)

-- what each step does to a store
abbrev pub steps_in : MissionRows → List ℕ → (ℕ → ℕ → ℕ) → ℕ → List PacketStep
steps_in m edges x s = map (step_in m edges x s) (range_with_len 1 (length edges - 1))

-- the same of all stores, one after the other
abbrev pub all_steps : MissionRows → List ℕ → (ℕ → ℕ → ℕ) → List PacketStep
all_steps m edges x = flat_map (steps_in m edges x) (range_with_len 0 (length m.stores))

abbrev pub no_step : PacketStep
no_step = record { arrived = 0; lost = 0; dumped = 0; held = 0 }

-- how many packets of a store are sent in a step, by a list of all steps
abbrev pub sent_in : List ℕ → List PacketStep → ℕ → ℕ → ℕ
sent_in edges steps s t = (slice_index_or steps (s * (length edges - 1) + (t - 1)) no_step).dumped

-- so many packets are sent of each store in each step
abbrev pub AreSentBy : MissionRows → List ℕ → (ℕ → ℕ → ℕ) → (ℕ → ℕ → ℕ) → Type 0
AreSentBy m edges x packets = (s t : ℕ) → s < length m.stores → 1 ≤ t → t < length edges
    → packets s t ≡ (step_in m edges x s t).dumped
