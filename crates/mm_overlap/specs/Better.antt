-- Passes that overlap, served by one transmitter. Passes and parts of passes count from 0, rates are fractions.
use Rattle.std.specs.Prelude.{◌≡◌, ℕ, ◌+◌, ◌*◌, ◌<◌, ◌≤◌, ◌⊎◌, Bool, nat_le, nat_lt, if◌then◌else◌, List, [], ◌∷◌}
use Rattle.std.specs.Prelude.{◌++◌, length, map, filter, slice_index, take, All, AllPairs, IsTrue, Option, Some, None}
use Rattle.std.specs.Prelude.{Err}
use Rattle.std.specs.Int.{◌∣◌}
use Rattle.std.specs.List.{fold, flat_map, list_any, range_with_len}
use Rattle.std.specs.Option.{unwrap_or}
use Rattle.mm_base.specs.declared.limits.TheConstants.{CHANNELS}
use Rattle.mm_links.specs.declared.better.Offer.{Offer}
use Rattle.mm_links.specs.declared.better.Part.{Part}
use Rattle.mm_mission.specs.declared.fault.Fault.{Fault}
use Rattle.mm_mission.specs.declared.fault.Fault.TheVariants.{TooMany, BadPass}
use Rattle.mm_mission.specs.declared.limits.TheConstants.{MAX_PASSES, MAX_RATE}
use Rattle.mm_mission.specs.declared.parts.Pass.{Pass}
use Rattle.mm_mission.specs.declared.parts.Rate.{Rate}
use Rattle.mm_mission.specs.Flows.{is_on, own_rate}
use Rattle.mm_mission.specs.Mission.{MissionRows, EndsBefore, each_pass_fits}
use Rattle.mm_overlap.specs.Given.{pass}

-- ---- what a pass can send

-- whether some store is sent on a channel
abbrev pub has_store : MissionRows → ℕ → Bool
has_store m c = list_any (is_on (Some c)) m.stores

-- the channels that stores have
abbrev pub channels_of : MissionRows → List ℕ
channels_of m = filter (has_store m) (range_with_len 0 CHANNELS)

-- the rate of a channel in a pass: its own one, or that of the link if it has none
abbrev pub channel_rate : Pass → ℕ → Rate
channel_rate p c = unwrap_or (own_rate (Some c) p) p.rate

-- whether a rate is at most another one
abbrev pub is_at_most : Rate → Rate → Bool
is_at_most r s = nat_le (r.octets * s.micros) (s.octets * r.micros)

abbrev pub lesser : Rate → Rate → Rate
lesser r s = if is_at_most r s then r else s

abbrev pub no_rate : Rate
no_rate = record { octets = 0; micros = 1 }

-- two rates together
abbrev pub plus : Rate → Rate → Rate
plus r s = record { octets = r.octets * s.micros + s.octets * r.micros; micros = r.micros * s.micros }

-- the rate at which a pass can send these channels together: each at its rate, and at most at the link's, which is also
-- the most for all of them
abbrev pub rate_of : List ℕ → Pass → Rate
rate_of channels p = lesser (fold plus no_rate (map (λ c. lesser (channel_rate p c) p.rate) channels)) p.rate

-- a pass can send no more than another one of what stores have channels for
abbrev pub SendsAtMost : MissionRows → Pass → Pass → Type 0
SendsAtMost m p q = IsTrue (is_at_most (rate_of (channels_of m) p) (rate_of (channels_of m) q))

-- ---- the parts of passes

-- a pass, or a part of it, is there at a time
pub record IsThere (p : Pass) (time : ℕ) : Type 0 where
  pub begun : p.span.begin ≤ time
  pub lasts : time < p.span.end

-- the pass with this number is there at a time, and none that is there can send more
pub record IsBest (m : MissionRows) (passes : List Pass) (time i : ℕ) : Type 0 where
  pub known : i < length passes
  pub there : IsThere (pass passes i) time
  pub most : (k : ℕ) → k < length passes → IsThere (pass passes k) time
      → SendsAtMost m (pass passes k) (pass passes i)

-- a part of the pass with this number, with its rates: at each moment of it that pass is best
pub record IsPartOf (m : MissionRows) (passes : List Pass) (i : ℕ) (p : Pass) : Type 0 where
  pub some : p.span.begin < p.span.end
  pub rate : p.rate ≡ (pass passes i).rate
  pub channels : p.channels ≡ (pass passes i).channels
  pub best : (time : ℕ) → IsThere p time → IsBest m passes time i

-- parts of passes, and for each the number of its pass: they follow one another, and one is there whenever a pass is
pub record AreParts (m : MissionRows) (passes : List Pass) (numbers : List ℕ) (parts : List Pass) : Type 0 where
  pub as_many : length numbers ≡ length parts
  pub each : (j : ℕ) → j < length parts → IsPartOf m passes (slice_index numbers j) (pass parts j)
  pub apart : AllPairs EndsBefore parts
  pub all : (i time : ℕ) → i < length passes → IsThere (pass passes i) time
      → (j : ℕ) × (j < length parts) × IsThere (pass parts j) time

-- ---- refusals

-- the rates that are compared of a pass: that of its link, and those of channels
abbrev pub rates_of : List ℕ → Pass → List Rate
rates_of channels p = p.rate ∷ map (channel_rate p) channels

-- in that time whole octets flow at each of these rates: it is a multiple of the microseconds of each
abbrev pub IsCommonTime : List Rate → ℕ → Type 0
IsCommonTime rates time = All (λ r. r.micros ∣ time) rates

-- rates without a common time in range
abbrev pub HaveNoTime : List Rate → Type 0
HaveNoTime rates = (time : ℕ) → 1 ≤ time → IsCommonTime rates time → MAX_RATE < time

-- the first pass whose rates, with those of the passes before it, have no common time in range
pub record IsOutOfRange (channels : List ℕ) (passes : List Pass) (row : ℕ) : Type 0 where
  pub known : row < length passes
  pub none : HaveNoTime (flat_map (rates_of channels) (take (row + 1) passes))
  pub before : HaveNoTime (flat_map (rates_of channels) (take row passes)) → ⊥

-- parts of passes, more than a mission has passes
abbrev pub AreTooMany : MissionRows → List Pass → Type 0
AreTooMany m passes =
    (numbers : List ℕ) × ((parts : List Pass) × AreParts m passes numbers parts × (MAX_PASSES < length parts))

-- why passes are refused: a pass by itself, or rates without a common time, or too many parts
abbrev pub IsRefused : MissionRows → List Pass → Fault → Type 0
IsRefused m passes fault =
    (each_pass_fits m passes ≡ Err fault)
    ⊎ (((row : ℕ) × (fault ≡ BadPass row) × IsOutOfRange (channels_of m) passes row)
    ⊎ ((fault ≡ TooMany) × AreTooMany m passes))

-- ---- on the way

-- a common multiple in range that divides each one
pub record IsLeastMultiple (n m t : ℕ) : Type 0 where
  pub first : n ∣ t
  pub second : m ∣ t
  pub least : (s : ℕ) → n ∣ s → m ∣ s → t ∣ s
  pub some : 1 ≤ t
  pub within : t ≤ MAX_RATE

-- the least common multiple of two times, or none where it is out of range
abbrev pub IsLeastIfAny : ℕ → ℕ → Option ℕ → Type 0
IsLeastIfAny n m (Some t) = IsLeastMultiple n m t
IsLeastIfAny n m None = (s : ℕ) → 1 ≤ s → n ∣ s → m ∣ s → MAX_RATE < s

-- the least common time of rates
pub record IsLeastTime (rates : List Rate) (time : ℕ) : Type 0 where
  pub common : IsCommonTime rates time
  pub least : (s : ℕ) → IsCommonTime rates s → time ∣ s
  pub some : 1 ≤ time
  pub within : time ≤ MAX_RATE

-- the same, or none where it is out of range
abbrev pub IsTimeIfAny : List Rate → Option ℕ → Type 0
IsTimeIfAny rates (Some time) = IsLeastTime rates time
IsTimeIfAny rates None = HaveNoTime rates

-- from the least common time of rates that of these and more
abbrev pub IsNextTime : ℕ → List Rate → Option ℕ → Type 0
IsNextTime time more next =
    (rates : List Rate) → IsLeastTime rates time → IsTimeIfAny (rates ++ more) next

-- in a time just so many octets flow at a rate
pub record IsSent (time : ℕ) (r : Rate) (octets : ℕ) : Type 0 where
  pub same : octets * r.micros ≡ r.octets * time
  pub some : 1 ≤ r.micros

-- what each pass can send of these channels in a time
pub record AreSent (channels : List ℕ) (time : ℕ) (passes : List Pass) (octets : List ℕ) : Type 0 where
  pub as_many : length octets ≡ length passes
  pub each : (i : ℕ) → i < length passes → IsSent time (rate_of channels (pass passes i)) (slice_index octets i)

-- how many of these numbers are less than one
abbrev pub below : List ℕ → ℕ → ℕ
below numbers n = length (filter (λ k. nat_lt k n) numbers)

-- a pass as it is offered to the transmitter: it is worth as much as there are passes that can send less
abbrev pub offer_of : List Pass → List ℕ → ℕ → Offer
offer_of passes octets i = record {
  begin = (pass passes i).span.begin;
  end = (pass passes i).span.end;
  worth = below octets (slice_index octets i);
}

-- the pass of a part, while it is served
abbrev pub part_of : List Pass → Part → Pass
part_of passes p = record (pass passes p.pass) { span = record { begin = p.begin; end = p.end } }
