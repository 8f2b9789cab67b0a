-- What comes into the stores of a mission, each store's in one time.
use Rattle.std.specs.Prelude.{ℕ, ◌+◌, ◌-◌, ◌==◌, Bool, List, [], ◌∷◌, ◌++◌, bytes_eq, position, slice_index_or, Option}
use Rattle.std.specs.Prelude.{Some, None, Result, Ok, Err, if◌then◌else◌}
use Rattle.std.specs.Option.{ok_or}
use Rattle.mm_base.specs.Reading.{◌>>=◌}
use Rattle.mm_mission.specs.declared.parts.Observation as exact
use Rattle.mm_mission.specs.declared.parts.Rate.{Rate}
use Rattle.mm_mission.specs.declared.parts.Span.{Span}
use Rattle.mm_mission.specs.declared.parts.Store.{Store}
use Rattle.mm_mission.specs.Mission.{no_store}
use Rattle.mm_mission_text.specs.declared.observation.Arrival.{Arrival}
use Rattle.mm_mission_text.specs.declared.observation.Arrival.TheVariants as arrival
use Rattle.mm_mission_text.specs.declared.observation.Observation.{Observation}
use Rattle.mm_mission_exact.specs.declared.fault.Fault.{Fault}
use Rattle.mm_mission_exact.specs.declared.fault.Fault.TheVariants.{NoStore, OutOfRange}
use Rattle.mm_mission_exact.specs.declared.fault.Number.TheVariants as number
use Rattle.mm_mission_exact.specs.declared.observation.Arriving.{Arriving}
use Rattle.mm_mission_exact.specs.declared.window.Window.{Window}
use Rattle.mm_mission_exact.specs.Each.{each_in, added}
use Rattle.mm_mission_exact.specs.Rates.{rate_of, rate_over, common, octets_over}
use Rattle.mm_mission_exact.specs.Windows.{observation_window, part_in}

-- ---- what comes, each at its own rate

-- the rate at which it comes into a store whose packets have so many octets; a volume comes in so many microseconds
abbrev pub arrival_rate : ℕ → ℕ → Arrival → Option Rate
arrival_rate packet micros (arrival.Rate r) = rate_of packet r
arrival_rate packet micros (arrival.Volume v) = rate_over packet micros v.measure v.amount

-- the octets of a packet of the store at a place
abbrev pub packet_at : List Store → ℕ → ℕ
packet_at stores place = (slice_index_or stores place no_store).packet

-- what comes by a row, with the part of its span that lies in the mission
unfoldable pub arriving_in : List Store → ℕ → Observation → Span → Result Arriving Fault
arriving_in stores row o span = do
  store ← ok_or (position (λ s. bytes_eq s.id o.store) stores) (NoStore row)
  rate ← ok_or (arrival_rate (packet_at stores store) (o.end - o.begin) o.arrival) (OutOfRange number.Arrival row)
  Ok (record { row = row; store = store; span = span; rate = rate })

-- the same after others, unless it lies outside of the mission
abbrev pub if_part : List Store → ℕ → List Arriving → Observation → Option Span → Result (List Arriving) Fault
if_part stores row arriving o None = Ok arriving
if_part stores row arriving o (Some span) = added arriving (arriving_in stores row o span)

abbrev pub and_arriving : List Store → Window → ℕ → List Arriving → Observation → Result (List Arriving) Fault
and_arriving stores mission place arriving o =
    if_part stores (place + 1) arriving o (part_in mission (observation_window o))

-- what comes by all rows
abbrev pub all_arriving : List Store → Window → List Observation → Result (List Arriving) Fault
all_arriving stores mission observations = each_in (and_arriving stores mission) 0 [] observations

-- ---- the time of a store's observations

-- a time that is a multiple also of the time of what comes into this store
abbrev pub and_common : ℕ → ℕ → ℕ → Arriving → Result ℕ Fault
and_common store place micros a =
    if a.store == store then ok_or (common micros a.rate.micros) (OutOfRange number.Micros a.row) else Ok micros

-- the least common multiple of the times of what comes into a store
abbrev pub micros_of : List Arriving → ℕ → Result ℕ Fault
micros_of arriving store = each_in (and_common store) 0 1 arriving

-- a store with that time
unfoldable pub timed : List Arriving → ℕ → Store → Result Store Fault
timed arriving place s = micros_of arriving place >>= λ micros. Ok (record s { micros = micros })

abbrev pub and_timed : List Arriving → ℕ → List Store → Store → Result (List Store) Fault
and_timed arriving place stores s = added stores (timed arriving place s)

-- the stores with their times
abbrev pub all_timed : List Arriving → List Store → Result (List Store) Fault
all_timed arriving stores = each_in (and_timed arriving) 0 [] stores

-- ---- what comes in that time

abbrev pub micros_at : List Store → ℕ → ℕ
micros_at stores place = (slice_index_or stores place no_store).micros

-- an observation, with the octets that come in the time of its store
unfoldable pub observation_of : List Store → Arriving → Result exact.Observation Fault
observation_of stores a = do
  octets ← ok_or (octets_over (micros_at stores a.store) a.rate) (OutOfRange number.Octets a.row)
  Ok (record { store = a.store; span = a.span; octets = octets })

abbrev pub and_observation : List Store → ℕ → List exact.Observation → Arriving
    → Result (List exact.Observation) Fault
and_observation stores place observations a = added observations (observation_of stores a)

-- all observations
abbrev pub all_observations : List Store → List Arriving → Result (List exact.Observation) Fault
all_observations stores arriving = each_in (and_observation stores) 0 [] arriving
