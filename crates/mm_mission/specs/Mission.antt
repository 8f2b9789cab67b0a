-- A mission in exact numbers: times in microseconds from its begin, rates in octets by microseconds, sizes in packets.
-- Each store has packets of one length, and a number of them is its unit, in which a plan counts.
use Rattle.std.specs.Prelude.{ℕ, ◌+◌, ◌*◌, ◌≤◌, Bool, true, nat_le, nat_lt, not, ◌&&◌, List, [], ◌∷◌, length}
use Rattle.std.specs.Prelude.{position, slice_index_or, All, AllPairs, IsTrue, Option, Some, None, Result, Ok, Err}
use Rattle.std.specs.List.{list_all}
use Rattle.mm_base.specs.declared.limits.TheConstants.{MAX_BLOCKS}
use Rattle.mm_base.specs.declared.kind.Kind.TheVariants.{Circular}
use Rattle.mm_base.specs.Reading.{◌>>=◌, test}
use Rattle.mm_mission.specs.declared.fault.Fault.{Fault}
use Rattle.mm_mission.specs.declared.fault.Fault.TheVariants.{BadTime, TooMany, BadStore, BadPass, Overlap}
use Rattle.mm_mission.specs.declared.fault.Fault.TheVariants.{BadObservation, NoStore}
use Rattle.mm_mission.specs.declared.limits.TheConstants.{MAX_TIME, MAX_RATE, MAX_PACKET, MAX_UNIT, MAX_PASSES}
use Rattle.mm_mission.specs.declared.limits.TheConstants.{MAX_OBSERVATIONS}
use Rattle.mm_mission.specs.declared.parts.Rate.{Rate}
use Rattle.mm_mission.specs.declared.parts.Span.{Span}
use Rattle.mm_mission.specs.declared.parts.Pass.{Pass}
use Rattle.mm_mission.specs.declared.parts.Observation.{Observation}
use Rattle.mm_mission.specs.declared.parts.Store.{Store}

abbrev pub no_store : Store
no_store = record { id = []; kind = Circular; packet = 0; unit = 0; micros = 0; size = 0; start = 0; channel = 0 }

pub record MissionRows : Type 0 where
  -- how long it lasts
  pub lasts : ℕ
  pub stores : List Store
  -- in the order of their begins
  pub passes : List Pass
  pub observations : List Observation

-- the store at a place
abbrev pub store_at : MissionRows → ℕ → Store
store_at m s = slice_index_or m.stores s no_store

-- ---- whether each part is within its range

abbrev pub is_rate : Rate → Bool
is_rate r = nat_le r.octets MAX_RATE && nat_le 1 r.micros && nat_le r.micros MAX_RATE

-- a channel's own rate, if it has one
abbrev pub is_own_rate : Option Rate → Bool
is_own_rate None = true
is_own_rate (Some r) = is_rate r

-- a span within a mission that lasts so long
abbrev pub is_span : ℕ → Span → Bool
is_span lasts s = nat_lt s.begin s.end && nat_le s.end lasts

abbrev pub is_pass : ℕ → Pass → Bool
is_pass lasts p = is_span lasts p.span && is_rate p.rate && list_all is_own_rate p.channels

abbrev pub is_observation : ℕ → Observation → Bool
is_observation lasts o = is_span lasts o.span && nat_le o.octets MAX_RATE

-- the length of a store's packets, its unit, and the time in which its observations' octets come
abbrev pub are_packets : Store → Bool
are_packets s =
    nat_le 1 s.packet && nat_le s.packet MAX_PACKET && nat_le 1 s.unit && nat_le s.unit MAX_UNIT && nat_le 1 s.micros
    && nat_le s.micros MAX_RATE

-- room for a unit, and for no more of them than a store of a problem has
abbrev pub is_size : Store → Bool
is_size s = nat_le s.unit s.size && nat_lt s.size ((MAX_BLOCKS + 1) * s.unit)

abbrev pub is_store : Store → Bool
is_store s = are_packets s && is_size s && nat_le s.start s.size

abbrev pub is_time : ℕ → Bool
is_time lasts = nat_le 1 lasts && nat_le lasts MAX_TIME

abbrev pub are_few : ℕ → ℕ → Bool
are_few passes observations = nat_le passes MAX_PASSES && nat_le observations MAX_OBSERVATIONS

-- whether an observation is of one of so many stores
abbrev pub is_known : ℕ → Observation → Bool
is_known stores o = nat_lt o.store stores

-- ---- the first fault

-- the fault of a row at this place, or none
abbrev pub fault_at : (ℕ → Fault) → Option ℕ → Result (Unit {0}) Fault
fault_at fault None = Ok tt
fault_at fault (Some row) = Err (fault row)

-- the fault of the first row that does not fit; rows count from 0
abbrev pub each_fits : {R : Type 0} → (ℕ → Fault) → (R → Bool) → List R → Result (Unit {0}) Fault
each_fits fault fits rows = fault_at fault (position (λ r. not (fits r)) rows)

-- each of the passes from this row on begins once the one before it, which ends at `free`, has ended
unfoldable pub follow : ℕ → ℕ → List Pass → Result (Unit {0}) Fault
follow row free [] = Ok tt
follow row free (p ∷ passes) = do
  apart ← test (nat_le free p.span.begin) (Overlap row)
  follow (row + 1) p.span.end passes

-- passes of a mission that lasts so long, which do not overlap
abbrev pub passes_fit : ℕ → List Pass → Result (Unit {0}) Fault
passes_fit lasts passes = do
  each ← each_fits BadPass (is_pass lasts) passes
  follow 0 0 passes

-- passes of a mission that may overlap
abbrev pub each_pass_fits : MissionRows → List Pass → Result (Unit {0}) Fault
each_pass_fits m passes = do
  few ← test (nat_le (length passes) MAX_PASSES) TooMany
  each_fits BadPass (is_pass m.lasts) passes

-- observations of a mission that lasts so long and has so many stores
abbrev pub observations_fit : ℕ → ℕ → List Observation → Result (Unit {0}) Fault
observations_fit lasts stores observations = do
  each ← each_fits BadObservation (is_observation lasts) observations
  each_fits NoStore (is_known stores) observations

-- the mission, if each part of it is within its range and passes do not overlap, or else its first fault
unfoldable pub mission_from : MissionRows → Result MissionRows Fault
mission_from m = do
  time ← test (is_time m.lasts) BadTime
  few ← test (are_few (length m.passes) (length m.observations)) TooMany
  stores ← each_fits BadStore is_store m.stores
  passes ← passes_fit m.lasts m.passes
  observations ← observations_fit m.lasts (length m.stores) m.observations
  Ok m

-- ---- a mission

-- the same mission with other passes
abbrev pub with_passes : MissionRows → List Pass → MissionRows
with_passes m passes = record m { passes = passes }

-- a pass that ends before another begins
abbrev pub EndsBefore : Pass → Pass → Type 0
EndsBefore p r = p.span.end ≤ r.span.begin

-- the numbers of a mission within all ranges
pub record IsMission (m : MissionRows) : Type 0 where
  pub time : IsTrue (is_time m.lasts)
  pub few : IsTrue (are_few (length m.passes) (length m.observations))
  pub stores : All (λ s. IsTrue (is_store s)) m.stores
  pub passes : All (λ p. IsTrue (is_pass m.lasts p)) m.passes
  pub apart : AllPairs EndsBefore m.passes
  pub observations : All (λ o. IsTrue (is_observation m.lasts o)) m.observations
  pub known : All (λ o. IsTrue (is_known (length m.stores) o)) m.observations
