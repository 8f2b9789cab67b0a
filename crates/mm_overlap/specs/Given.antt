-- Passes that overlap, given to transmitters. Passes and transmitters count from 0.
use Rattle.std.specs.Prelude.{◌≡◌, ℕ, ◌+◌, ◌<◌, ◌≤◌, ◌⊎◌, ◌==◌, List, [], length, map, filter, slice_index}
use Rattle.std.specs.Prelude.{slice_index_or, All}
use Rattle.std.specs.List.{range_with_len}
use Rattle.mm_links.specs.declared.limits.TheConstants.{MAX_LINKS}
use Rattle.mm_mission.specs.declared.parts.Pass.{Pass}
use Rattle.mm_mission.specs.Mission.{MissionRows, with_passes}

-- what stands past the last pass
abbrev pub no_pass : Pass
no_pass = record {
  span = record { begin = 0; end = 0 };
  rate = record { octets = 0; micros = 1 };
  channels = [];
}

-- the pass with a number
abbrev pub pass : List Pass → ℕ → Pass
pass passes i = slice_index_or passes i no_pass

-- the number of a pass's transmitter, by a list with one for each pass
abbrev pub transmitter : List ℕ → ℕ → ℕ
transmitter numbers i = slice_index numbers i

-- a transmitter is free at a time: those of the first n passes that it has end by then
abbrev pub IsFree : List Pass → List ℕ → ℕ → ℕ → ℕ → Type 0
IsFree passes numbers n k time = (i : ℕ) → i < n → transmitter numbers i ≡ k → (pass passes i).span.end ≤ time

-- a pass has the first transmitter that is free as it begins, after the passes before it in the list
pub record IsGiven (passes : List Pass) (numbers : List ℕ) (i : ℕ) : Type 0 where
  pub free : IsFree passes numbers i (transmitter numbers i) (pass passes i).span.begin
  pub first : (k : ℕ) → k < transmitter numbers i → IsFree passes numbers i k (pass passes i).span.begin → ⊥

-- the mission of a transmitter is the whole one, with its own passes
abbrev pub IsTransmitter : MissionRows → MissionRows → Type 0
IsTransmitter m own = with_passes m own.passes ≡ own

-- the missions of transmitters that send at once
pub record AreTransmitters (m : MissionRows) (missions : List MissionRows) : Type 0 where
  pub some : 1 ≤ length missions
  pub few : length missions ≤ MAX_LINKS
  pub each : All (IsTransmitter m) missions

-- the passes of a transmitter, in their order
abbrev pub passes_of : List Pass → List ℕ → ℕ → List Pass
passes_of passes numbers k =
    map (pass passes) (filter (λ i. transmitter numbers i == k) (range_with_len 0 (length passes)))

-- the mission of a transmitter
abbrev pub mission_of : MissionRows → List Pass → List ℕ → ℕ → MissionRows
mission_of m passes numbers k = with_passes m (passes_of passes numbers k)

-- how many transmitters there are: no more than the passes have, and at least one
pub record IsCount (passes : List Pass) (numbers : List ℕ) (count : ℕ) : Type 0 where
  pub some : 1 ≤ count
  pub each : (i : ℕ) → i < length passes → transmitter numbers i < count
  pub last : (count ≡ 1) ⊎ ((i : ℕ) × (i < length passes) × (transmitter numbers i + 1 ≡ count))

-- the missions of the transmitters that passes were given to
pub record AreGiven (m : MissionRows) (passes : List Pass) (numbers : List ℕ) (missions : List MissionRows)
    : Type 0
  where
    pub as_many : length numbers ≡ length passes
    pub given : (i : ℕ) → i < length passes → IsGiven passes numbers i
    pub count : IsCount passes numbers (length missions)
    pub each : missions ≡ map (mission_of m passes numbers) (range_with_len 0 (length missions))

-- each pass has a transmitter, and each transmitter is the mission with its passes
abbrev pub AreBoth : MissionRows → List Pass → List MissionRows → Type 0
AreBoth m passes missions = (numbers : List ℕ) × AreGiven m passes numbers missions
