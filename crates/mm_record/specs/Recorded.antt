-- What recorders offer: each packet that a source gives goes to each store that its report type is routed to.
use Rattle.std.specs.Prelude.{ℕ, List, map, filter}
use Rattle.mm_record.specs.Words.{RouteRow, SpacePacket, Event, Offer, Held, StoreLabel, ids_of, id_at}
use Rattle.mm_control.specs.Routing.{is_routed}
use Rattle.mm_record.specs.declared.step.RecordingStep.{RecordingStep}

-- what all recorders of a step share: the step, the moment of its offers, the routes, and the identifiers of the stores
pub record RecordingContext : Type 0 where
  pub step : ℕ
  pub now : ℕ
  pub routes : List RouteRow
  pub ids : List (List ℕ)

-- the step over these stores
abbrev pub recording : ℕ → ℕ → List RouteRow → List Held → RecordingContext
recording step now routes stores = record { step = step; now = now; routes = routes; ids = map (λ h. h.id) stores }

-- what the recorders of a step share, over these stores
abbrev pub recording_by : RecordingStep → List Held → RecordingContext
recording_by step stores = recording step.step step.now step.control.now stores

-- the step over stores that are open under these labels
abbrev pub open_recording : ℕ → ℕ → List RouteRow → List StoreLabel → RecordingContext
open_recording step now routes labels = record { step = step; now = now; routes = routes; ids = ids_of labels }

-- the offers of packets to the store at an index, in the order of the packets
abbrev pub offers : RecordingContext → ℕ → List SpacePacket → List Event
offers e k ps = map (λ p. Offer e.now p) (filter (is_routed e.routes (id_at e.ids k)) ps)
