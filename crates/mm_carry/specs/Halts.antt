-- Laws of a step, whole or broken off, over the definitions alone.
use Rattle.std.specs.Prelude.{◌≡◌, ◌⊎◌, ℕ, ◌<◌, List, [], ◌++◌, length, Option, None}
use Rattle.std.specs.List.{AllZip}
use Rattle.mm_carry.specs.Words.{SpacePacket, State, IsShuffleOfEvents, IsRun, opening_at, Entry, Event, Held}
use Rattle.mm_carry.specs.Words.{states_of, RecordingContext, offers}
use Rattle.mm_carry.specs.Words.{recording, given_in, Supply, Course, IsCourse, IsOrderFor, Sent, Order}
use Rattle.mm_base.specs.declared.rows.RouteRow.{RouteRow}
use Rattle.mm_carry.specs.RunState.{RunState}
use Rattle.mm_carry.specs.declared.step.Stop.{Stop}
use Rattle.mm_carry.specs.Step.{IsStep, IsWholeStep}

-- no call, or the calls of the dump order for the store at a place, whole or broken
abbrev pub AreOneOrder : List Order → ℕ → List Entry → Type 0
AreOneOrder orders k calls = (calls ≡ []) ⊎ ((c : Course) × (calls ≡ c.calls) × IsCourse c × IsOrderFor orders k c)

-- these are the first offers to the store at a place, of those of these packets: perhaps none, perhaps all
abbrev pub AreFirstOffers : RecordingContext → ℕ → List SpacePacket → List Event → Type 0
AreFirstOffers e k packets first = (rest : List Event) × (offers e k packets ≡ first ++ rest)

-- one legal log leads a store from one state to another: replies left aside, a shuffle of the first offers of what
-- each source gives, and then the calls of at most one order, the one for this store
pub record IsByOneLog (e : RecordingContext) (given : List (List SpacePacket)) (orders : List Order) (k : ℕ)
    (s t : State) : Type 0 where
  pub firsts : List (List Event)
  pub are : AllZip (AreFirstOffers e k) given firsts
  pub offered : List Entry
  pub ordered : List Entry
  pub run : IsRun s (offered ++ ordered) t
  pub shuffle : IsShuffleOfEvents firsts offered
  pub order : AreOneOrder orders k ordered

-- what holds of each store, from what it was before a step to what it is after it
abbrev pub AtEachStore : (ℕ → State → State → Type 0) → List Held → List Held → Type 0
AtEachStore went before after = (k : ℕ) → k < length before → went k (opening_at (states_of before) k)
    (opening_at (states_of after) k)

-- in each step, whole or broken off, one log leads each store on
abbrev pub BrokenStepsAreLogs : {L : Type 0} → (L → List Sent) → (L → ℕ) → Type 0
BrokenStepsAreLogs {L} sent failed = (step now : ℕ) (routes : List RouteRow) (orders : List Order)
    (before after : RunState Supply L) (stop : Option Stop)
    → IsStep sent failed (recording step now routes before.stores) orders stop before after
    → AtEachStore (IsByOneLog (recording step now routes before.stores) (given_in step before.sources) orders)
    before.stores after.stores

-- a step without a stop is whole
abbrev pub StepsWithoutStopAreWhole : {L : Type 0} → (L → List Sent) → (L → ℕ) → Type 0
StepsWithoutStopAreWhole {L} sent failed = (step now : ℕ) (routes : List RouteRow) (orders : List Order)
    (before after : RunState Supply L)
    → IsStep sent failed (recording step now routes before.stores) orders None before after
    → IsWholeStep sent failed (recording step now routes before.stores) orders before after
