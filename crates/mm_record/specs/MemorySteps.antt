-- A step of recorders over a memory.
use Rattle.std.specs.Prelude.{◌≡◌, ◌⊎◌, ℕ, ◌-◌, ◌<◌, List, length, map, slice_index_or, Some, None, Result, is_ok}
use Rattle.std.specs.Prelude.{false, IfErr}
use Rattle.mm_record.specs.Words.{SpacePacket, Fault, Held, State, Leaves, count_of, opening_at, Holdings, states_of}
use Rattle.mm_record.specs.Words.{id_at, Cause, NoMemory, RouteRow}
use Rattle.mm_shared.specs.declared.counters.StoreCounters.{StoreCounters}
use Rattle.mm_record.specs.declared.memory_step.Recorded.{Recorded}
use Rattle.mm_record.specs.declared.memory_step.RecordedStep.{RecordedStep}
use Rattle.mm_record.specs.declared.memory_step.RecordHalted.{RecordHalted}
use Rattle.mm_record.specs.Causes.{cause_in}
use Rattle.mm_record.specs.Supplies.{Supply, WhateverComes}
use Rattle.mm_record.specs.Recorded.{RecordingContext, recording, offers}
use Rattle.mm_record.specs.Steps.{given_in, Records}

-- the memory of these stores and these routes
abbrev pub held_by : List RouteRow → List Held → Holdings
held_by routes stores = record { stores = stores; routes = routes }

-- a step at a moment, over the stores of a memory and by its routes
abbrev pub recording_of : ℕ → ℕ → Holdings → RecordingContext
recording_of step now memory = recording step now memory.routes memory.stores

-- the store at an index
abbrev pub store_at : Holdings → ℕ → State
store_at memory k = opening_at (states_of memory.stores) k

-- how many packets of these were offered to the store at an index
abbrev pub came : RecordingContext → List (List SpacePacket) → ℕ → ℕ
came e gave k = count_of (map (offers e k) gave)

-- what is told of a store that had these counters before
abbrev pub change_of : StoreCounters → Held → Recorded
change_of before h = record { store = h.id; came = h.state.offered - before.offered; lost = h.state.lost - before.lost }

-- these are the rows of the first stores, up to this number of them
pub record AreRows (before : List StoreCounters) (stores : List Held) (many : ℕ) (rows : List Recorded) : Type 0 where
  pub count : length rows ≡ many
  pub each : (k : ℕ) (d : Recorded) (c : StoreCounters) (h : Held) → k < many
      → slice_index_or rows k d ≡ change_of (slice_index_or before k c) (slice_index_or stores k h)

-- what is told of the store at an index: what came and what was lost
abbrev pub told_of : RecordingContext → List (List SpacePacket) → Holdings → Holdings → ℕ → Recorded
told_of e gave old new k = record {
  store = id_at (map (λ h. h.id) old.stores) k;
  came = came e gave k;
  lost = (store_at new k).lost - (store_at old k).lost;
}

-- of each store is told what came and what was lost
pub record AreTold (e : RecordingContext) (gave : List (List SpacePacket)) (old new : Holdings)
    (told : List Recorded) : Type 0 where
  pub many : length told ≡ length new.stores
  pub each : (k : ℕ) (d : Recorded) → k < length new.stores → slice_index_or told k d ≡ told_of e gave old new k

-- a step was recorded: no recorder stopped early, and of each store is told what came and what was lost
pub record IsRecorded (e : RecordingContext) (old new : Holdings) (told : List Recorded)
    (sources left : List Supply) : Type 0 where
  pub routes : new.routes ≡ old.routes
  pub records : Records e old.stores new.stores None sources left
  pub leaves : (k : ℕ) → k < length new.stores
      → Leaves (store_at old k) (store_at new k) (came e (given_in e.step sources) k)
  pub told_are : AreTold e (given_in e.step sources) old new told

-- a step was refused before it began: nothing has changed
pub record IsRefused {S : Type 0} (cause : Cause) (old new : Holdings) (sources : List S)
    (result : Result (RecordedStep S) (RecordHalted S)) : Type 0 where
  pub refused : is_ok result ≡ false
  pub told : IfErr result (λ halted. (halted.cause ≡ cause) × (halted.sources.items ≡ sources))
  pub same : new ≡ old

-- recorders were at work when the step was ended: some stopped early for a fault, which is the cause
pub record WasEnded (e : RecordingContext) (old new : Holdings) (cause : Cause)
    (sources left : List Supply) : Type 0 where
  pub routes : new.routes ≡ old.routes
  pub fault : Fault
  pub records : Records e old.stores new.stores (Some fault) sources left
  pub cause_is : cause_in e.step (Some fault) ≡ Some cause

-- there was no memory before the first recorder began: nothing has changed
pub record WasNotBegun {S : Type 0} (step : ℕ) (old new : Holdings) (sources left : List S)
    (cause : Cause) : Type 0 where
  pub cause_is : cause ≡ NoMemory step
  pub sources_same : left ≡ sources
  pub same : new ≡ old

-- a step was halted: out of memory before the first recorder began, or while recorders were at work
abbrev pub Halts : {S : Type 0} → (S → S → Type 0) → (S → S → Supply) → RecordingContext → Holdings → Holdings
    → List S → List S → Cause → Type 0
Halts leads until e old new sources left cause =
    WasNotBegun e.step old new sources left cause ⊎ WhateverComes leads until sources left (WasEnded e old new cause)
