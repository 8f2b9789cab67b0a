-- The passes of a mission, in the order of their begins.
use Rattle.std.specs.Prelude.{ℕ, ◌+◌, ◌==◌, nat_lt, not, Bool, ◌&&◌, ◌||◌, List, [], ◌∷◌, ◌++◌, length, find, bytes_eq}
use Rattle.std.specs.Prelude.{insert, position, slice_index_or, take, Option, Some, None, is_some, is_none}
use Rattle.std.specs.Prelude.{option_and_then, unwrap_or, Result, Ok, Err}
use Rattle.std.specs.List.{list_any}
use Rattle.std.specs.Option.{ok_or, option_or}
use Rattle.mm_base.specs.Reading.{◌>>=◌, test}
use Rattle.mm_mission.specs.declared.parts.Pass as exact
use Rattle.mm_mission.specs.declared.parts.Rate.{Rate}
use Rattle.mm_mission.specs.declared.parts.Span.{Span}
use Rattle.mm_mission_text.specs.declared.pass.Pass.{Pass}
use Rattle.mm_mission_text.specs.declared.station.Station.{Station}
use Rattle.mm_utc.specs.declared.amount.Rate as said
use Rattle.mm_mission_exact.specs.declared.fault.Fault.{Fault}
use Rattle.mm_mission_exact.specs.declared.fault.Fault.TheVariants.{StationTwice, NoStation, NoRate, Overlap}
use Rattle.mm_mission_exact.specs.declared.fault.Fault.TheVariants.{OutOfRange}
use Rattle.mm_mission_exact.specs.declared.fault.Number.{Number}
use Rattle.mm_mission_exact.specs.declared.fault.Number.TheVariants as number
use Rattle.mm_mission_exact.specs.declared.pass.Placed.{Placed}
use Rattle.mm_mission_exact.specs.declared.rows.Rows.{Rows}
use Rattle.mm_mission_exact.specs.declared.window.Window.{Window}
use Rattle.mm_mission_exact.specs.Each.{each_in}
use Rattle.mm_mission_exact.specs.Rates.{rate_of}
use Rattle.mm_mission_exact.specs.Stores.{longest_on}
use Rattle.mm_mission_exact.specs.Windows.{pass_window, part_in, meet}

-- ---- stations

-- the station with this name, if there is one
abbrev pub station_named : List Station → List ℕ → Option Station
station_named stations name = find (λ s. bytes_eq s.name name) stations

-- no station before this one has its name
abbrev pub new_station : List Station → ℕ → Unit {0} → Station → Result (Unit {0}) Fault
new_station stations place u s =
    test (not (list_any (λ e. bytes_eq e.name s.name) (take place stations))) (StationTwice (place + 1))

-- no two stations have one name
abbrev pub stations_differ : List Station → Result (Unit {0}) Fault
stations_differ stations = each_in (new_station stations) 0 tt stations

-- ---- rates

-- a rate exactly; a block is the longest packet of the channel, or of all
abbrev pub exact_rate : Rows → Option ℕ → Number → ℕ → said.Rate → Result Rate Fault
exact_rate rows channel number row r = ok_or (rate_of (longest_on rows channel) r) (OutOfRange number row)

-- the rate of the link: the pass's own, or its station's
unfoldable pub link_rate : Rows → ℕ → Pass → Option Station → Result Rate Fault
link_rate rows row p station = do
  rate ← ok_or (option_or p.rate (option_and_then (λ s. s.rate) station)) (NoRate row)
  exact_rate rows None number.Link row rate

-- the own rate of a channel: the pass's, or its station's, if there is one
abbrev pub said_rate : Pass → Option Station → ℕ → Option said.Rate
said_rate p station c =
    option_or (slice_index_or p.channels c None) (option_and_then (λ s. slice_index_or s.channels c None) station)

-- the same exactly
abbrev pub if_said : Rows → ℕ → ℕ → Option said.Rate → Result (Option Rate) Fault
if_said rows row c None = Ok None
if_said rows row c (Some r) = exact_rate rows (Some c) (number.Channel c) row r >>= λ rate. Ok (Some rate)

abbrev pub channel_rate : Rows → ℕ → Pass → Option Station → ℕ → Result (Option Rate) Fault
channel_rate rows row p station c = if_said rows row c (said_rate p station c)

-- the rates of all channels
unfoldable pub channel_rates : Rows → ℕ → Pass → Option Station → Result (List (Option Rate)) Fault
channel_rates rows row p station = do
  rate0 ← channel_rate rows row p station 0
  rate1 ← channel_rate rows row p station 1
  rate2 ← channel_rate rows row p station 2
  rate3 ← channel_rate rows row p station 3
  rate4 ← channel_rate rows row p station 4
  rate5 ← channel_rate rows row p station 5
  rate6 ← channel_rate rows row p station 6
  rate7 ← channel_rate rows row p station 7
  Ok (rate0 ∷ rate1 ∷ rate2 ∷ rate3 ∷ rate4 ∷ rate5 ∷ rate6 ∷ rate7 ∷ [])

-- ---- a pass

-- whether two passes may not be together: they have a time of the mission in common, and are over one station, or
-- nothing is said of passes that overlap
unfoldable pub clash : Rows → Window → Pass → Pass → Bool
clash rows mission p other =
    meet mission (pass_window p) (pass_window other)
    && (is_none rows.whole.now.overlap || bytes_eq p.station other.station)

-- no pass before this one may not be with it
abbrev pub apart : Rows → Window → ℕ → Pass → Result (Unit {0}) Fault
apart rows mission place p =
    test (not (list_any (clash rows mission p) (take place rows.passes.now))) (Overlap (place + 1))

-- the pass in a row, over one of the stations if there are any, with the part of it that lies in the mission
unfoldable pub pass_in : Rows → Window → ℕ → Pass → Span → Result exact.Pass Fault
pass_in rows mission place p span = do
  known ← test (length rows.stations.now == 0 || is_some (station_named rows.stations.now p.station))
      (NoStation (place + 1))
  rate ← link_rate rows (place + 1) p (station_named rows.stations.now p.station)
  channels ← channel_rates rows (place + 1) p (station_named rows.stations.now p.station)
  alone ← apart rows mission place p
  Ok (record { span = span; rate = rate; channels = channels })

-- ---- all passes

-- whether a pass begins before another, or with it and ends before it
unfoldable pub comes_before : Span → Span → Bool
comes_before s t = nat_lt s.begin t.begin || ((s.begin == t.begin) && nat_lt s.end t.end)

-- the place of the first pass that one with this span comes before, or the end
unfoldable pub place_for : Span → List Placed → ℕ
place_for span passes = unwrap_or (position (λ q. comes_before span q.pass.span) passes) (length passes)

-- a pass put there
abbrev pub inserted : Placed → List Placed → List Placed
inserted p passes = insert passes (place_for p.pass.span passes) p

abbrev pub and_placed : ℕ → List Placed → Result exact.Pass Fault → Result (List Placed) Fault
and_placed place passes (Ok pass) = Ok (inserted (record { place = place; pass = pass }) passes)
and_placed place passes (Err fault) = Err fault

-- the pass in a row among others, unless it lies outside of the mission
abbrev pub if_part : Rows → Window → ℕ → List Placed → Pass → Option Span → Result (List Placed) Fault
if_part rows mission place passes p None = Ok passes
if_part rows mission place passes p (Some span) = and_placed place passes (pass_in rows mission place p span)

abbrev pub and_pass : Rows → Window → ℕ → List Placed → Pass → Result (List Placed) Fault
and_pass rows mission place passes p = if_part rows mission place passes p (part_in mission (pass_window p))

-- the passes in the order of their begins, then of their ends, and then of their rows
unfoldable pub passes_in : Rows → Window → Result (List Placed) Fault
passes_in rows mission = do
  stations ← stations_differ rows.stations.now
  each_in (and_pass rows mission) 0 [] rows.passes.now
