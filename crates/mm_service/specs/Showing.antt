-- What a store of the memory is shown to hold and to have lost.
use Rattle.mm_base.specs.Reading.{◌>>=◌}
use Rattle.mm_service.specs.Words.{ℕ, List, length, Result, Ok, State, Fault}
use Rattle.mm_store.specs.Content.{oldest, newest}
use Rattle.std.specs.Option.{option_map}
use Rattle.std.specs.Prelude.{Option, slice_get}
use Rattle.mm_desk.specs.declared.held.Held.{Held}
use Rattle.mm_service.specs.declared.showing.Listed.{Listed}
use Rattle.mm_service.specs.declared.showing.Shown.{Shown}
use Rattle.mm_service.specs.Reading.{id_tested}
use Rattle.mm_service.specs.Serving.{Serving, state_named}

-- what a state shows
abbrev pub shown : State → Shown
shown s = record {
  kind = s.store.kind;
  size = s.store.size;
  held = length s.store.content;
  offered = s.offered;
  lost = s.lost;
  deleted = s.deleted;
  storage = s.storage;
  retrieval = s.retrieval;
  oldest = oldest s.store.content;
  newest = newest s.store.content;
}

-- what the store with this identifier shows, or the first test that fails
abbrev pub shown_of : List ℕ → Serving → Result Shown Fault
shown_of id s = do
  field ← id_tested id
  state ← state_named field s
  Ok (shown state)

-- a store of the memory, with what it shows
abbrev pub listed : Held → Listed
listed h = record { id = h.id; channel = h.channel; shown = shown h.state }

-- the store at this place, where there is one
abbrev pub store_at : ℕ → Serving → Option Listed
store_at place s = option_map listed (slice_get s.memory.stores place)
