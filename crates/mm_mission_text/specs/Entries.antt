-- The entries of the tables: their columns, and what is read in a row, in the order in which faults are found.
use Rattle.std.specs.Prelude.{ℕ, List, [], ◌∷◌, ◌++◌, Option, Some, None, unwrap_or, Result, Ok, Err}
use Rattle.mm_base.specs.Reading.{◌>>=◌}
use Rattle.mm_base.specs.declared.kind.Kind.TheVariants.{Bounded}
use Rattle.mm_utc.specs.declared.amount.Rate.{Rate}
use Rattle.mm_utc.specs.declared.amount.Volume.{Volume}
use Rattle.mm_utc.specs.declared.unit.Measure.TheVariants.{Octets}
use Rattle.mm_mission_text.specs.Cells.{text_of, id_of, rate_of, volume_of, kind_of, channel_of, octets_of}
use Rattle.mm_mission_text.specs.Rows.{Line, optional_in, needed_in, span_in, channels_in}
use Rattle.mm_mission_text.specs.Tables.{rows_of, table_in}
use Rattle.mm_mission_text.specs.declared.column.Column.{Column}
use Rattle.mm_mission_text.specs.declared.column.Column.TheVariants as column
use Rattle.mm_mission_text.specs.declared.fault.Fault.{Fault}
use Rattle.mm_mission_text.specs.declared.fault.Fault.TheVariants.{Cell}
use Rattle.mm_mission_text.specs.declared.fault.Why.TheVariants.{Missing, BesideRate}
use Rattle.mm_mission_text.specs.declared.observation.Arrival.{Arrival}
use Rattle.mm_mission_text.specs.declared.observation.Arrival.TheVariants as arrival
use Rattle.mm_mission_text.specs.declared.observation.Observation.{Observation}
use Rattle.mm_mission_text.specs.declared.pass.Pass.{Pass}
use Rattle.mm_mission_text.specs.declared.station.Station.{Station}
use Rattle.mm_mission_text.specs.declared.store.PacketStore.{PacketStore}

-- the columns with the rates of channels
abbrev pub channel_columns : List Column
channel_columns =
    column.Channel0 ∷ column.Channel1 ∷ column.Channel2 ∷ column.Channel3 ∷ column.Channel4 ∷ column.Channel5
    ∷ column.Channel6 ∷ column.Channel7 ∷ []

-- the columns of stores, and those that are needed
abbrev pub store_columns : List Column
store_columns =
    column.Id ∷ column.Size ∷ column.Type ∷ column.Channel ∷ column.Holds ∷ column.Packet ∷ []

abbrev pub store_needed : List Column
store_needed = column.Id ∷ column.Size ∷ []

-- no octets
abbrev pub nothing : Volume
nothing = record { amount = record { above = 0; below = 1 }; measure = Octets }

-- the store in a row, which is bounded, has channel 0 and holds nothing if nothing else is written
unfoldable pub store_in : Line → Result PacketStore Fault
store_in line = do
  id ← needed_in id_of line column.Id
  size ← needed_in volume_of line column.Size
  kind ← optional_in kind_of line column.Type
  channel ← optional_in channel_of line column.Channel
  holds ← optional_in volume_of line column.Holds
  packet ← optional_in octets_of line column.Packet
  Ok (record {
    id = id;
    size = size;
    kind = unwrap_or kind Bounded;
    channel = unwrap_or channel 0;
    holds = unwrap_or holds nothing;
    packet = packet;
  })

-- the stores of a text
abbrev pub stores_in : List ℕ → Result (List PacketStore) Fault
stores_in text = table_in store_columns store_needed store_in (rows_of text)

-- the columns of stations, and the one that is needed
abbrev pub station_columns : List Column
station_columns = column.Name ∷ column.Rate ∷ channel_columns

abbrev pub station_needed : List Column
station_needed = column.Name ∷ []

-- the station in a row
unfoldable pub station_in : Line → Result Station Fault
station_in line = do
  name ← needed_in text_of line column.Name
  rate ← optional_in rate_of line column.Rate
  channels ← channels_in line
  Ok (record { name = name; rate = rate; channels = channels })

-- the stations of a text
abbrev pub stations_in : List ℕ → Result (List Station) Fault
stations_in text = table_in station_columns station_needed station_in (rows_of text)

-- the columns of passes, and those that are needed
abbrev pub pass_columns : List Column
pass_columns =
    column.Station ∷ column.Begin ∷ column.End ∷ column.Rate ∷ (channel_columns ++ column.Name ∷ [])

abbrev pub pass_needed : List Column
pass_needed = column.Station ∷ column.Begin ∷ column.End ∷ []

-- the pass in a row
unfoldable pub pass_in : Line → Result Pass Fault
pass_in line = do
  station ← needed_in text_of line column.Station
  span ← span_in line
  rate ← optional_in rate_of line column.Rate
  channels ← channels_in line
  name ← optional_in text_of line column.Name
  Ok (record { station = station; begin = span.0; end = span.1; rate = rate; channels = channels; name = name })

-- the passes of a text
abbrev pub passes_in : List ℕ → Result (List Pass) Fault
passes_in text = table_in pass_columns pass_needed pass_in (rows_of text)

-- the columns of observations, and those that are needed
abbrev pub observation_columns : List Column
observation_columns =
    column.Store ∷ column.Begin ∷ column.End ∷ column.Rate ∷ column.Volume ∷ column.Name ∷ []

abbrev pub observation_needed : List Column
observation_needed = column.Store ∷ column.Begin ∷ column.End ∷ []

-- what arrives, by a rate or a volume, of which there is one
abbrev pub arrival_of : ℕ → Option Rate → Option Volume → Result Arrival Fault
arrival_of row (Some rate) None = Ok (arrival.Rate rate)
arrival_of row None (Some volume) = Ok (arrival.Volume volume)
arrival_of row None None = Err (Cell row column.Rate Missing)
arrival_of row (Some rate) (Some volume) = Err (Cell row column.Volume BesideRate)

-- the observation in a row
unfoldable pub observation_in : Line → Result Observation Fault
observation_in line = do
  store ← needed_in id_of line column.Store
  span ← span_in line
  rate ← optional_in rate_of line column.Rate
  volume ← optional_in volume_of line column.Volume
  arrival ← arrival_of line.number rate volume
  name ← optional_in text_of line column.Name
  Ok (record { store = store; begin = span.0; end = span.1; arrival = arrival; name = name })

-- the observations of a text
abbrev pub observations_in : List ℕ → Result (List Observation) Fault
observations_in text = table_in observation_columns observation_needed observation_in (rows_of text)
