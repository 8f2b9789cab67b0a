-- One step of a run: recorded, and then dumped.
use Rattle.std.specs.Prelude.{◌≡◌, ◌≢◌, ℕ, ◌-◌, ◌<◌, ◌≤◌, ◌^◌, IsTrue, List, [], ◌++◌, length, map, sum_by}
use Rattle.std.specs.Prelude.{All, AllPairs, Option, Some, None, IfSome}
use Rattle.std.specs.List.{AllZip}
use Rattle.mm_carry.specs.Words.{MAX_STORES, SpacePacket, Stored, IsState, opening_at, Held, labels_of, states_of}
use Rattle.mm_carry.specs.Words.{AreNamed, cause_in, RecordingContext, offers, given_in}
use Rattle.mm_carry.specs.Words.{Records, Supply, Sent, Order, Cause, NoMemory, LinkFailed, LogMismatch}
use Rattle.mm_desk.specs.declared.desk.TheConstants.{MAX_SEATS}
use Rattle.mm_desk.specs.declared.fault.Fault.{Fault}
use Rattle.mm_desk.specs.Holdings.{ids_of}
use Rattle.mm_dump.specs.declared.order.OrderBroken.{OrderBroken}
use Rattle.mm_dump.specs.declared.order.OrderBroken.TheVariants as broken
use Rattle.mm_dump.specs.Dumped.{wanted, times, places_of, AllTook, CarriesOut}
use Rattle.mm_carry.specs.StepRuns.{IsStepRun}
use Rattle.mm_carry.specs.RunState.{RunState}
use Rattle.mm_carry.specs.declared.step.Stop.{Stop}

-- each store is sound, its storage is on and no retrieval is
pub record AreReady (stores : List Held) : Type 0 where
  pub sound : All (λ h. IsState h.state) stores
  pub storage : All (λ h. IsTrue h.state.storage) stores
  pub idle : All (λ h. h.state.retrieval ≡ None) stores

-- orders of stores that are there, no two of one store, each of one packet or more
pub record AreOrders (stores : ℕ) (orders : List Order) : Type 0 where
  pub few : length orders ≤ MAX_STORES
  pub places : All (λ o. o.place < stores) orders
  pub some : All (λ o. 1 ≤ o.amount) orders
  pub apart : AllPairs (λ a b. a.place ≢ b.place) orders

-- a step at this moment may be carried out: there are few stores, with identifiers of their own and ready, and few
-- sources; there are links, not too many, and each may fail once more
pub record MayCarry {S L : Type 0} (failed : L → ℕ) (moment : ℕ) (orders : List Order)
    (now : RunState S L) : Type 0 where
  pub few : length now.stores ≤ MAX_STORES
  pub named : AreNamed (ids_of now.stores)
  pub ready : AreReady now.stores
  pub few_sources : length now.sources ≤ MAX_SEATS
  pub some_link : 1 ≤ length now.links
  pub few_links : length now.links ≤ MAX_SEATS
  pub links : All (λ l. failed l < 2 ^ 64 - 1) now.links
  pub orders_may : AreOrders (length now.stores) orders
  pub early : moment < 2 ^ 64

-- the orders that are carried out in a step: none where a recorder stopped early
abbrev pub orders_after : Option Fault → List Order → List Order
orders_after None orders = orders
orders_after (Some fault) orders = []

-- why a step was broken off, where a recorder stopped early for the fault, or where the worst order broke
abbrev pub cause_of : ℕ → Option Fault → Option OrderBroken → Option Cause
cause_of step fault None = cause_in step fault
cause_of step fault (Some broken.LinkFailed) = Some (LinkFailed step)
cause_of step fault (Some broken.NoMemory) = Some (NoMemory step)

-- where there is a cause the run stopped for it, with this much of the window spent
abbrev pub stop_for : Option Cause → ℕ → Option Stop
stop_for None spent = None
stop_for (Some cause) spent = Some (record { cause = cause; spent = spent })

-- A STEP OF A RUN, whole or broken off. Recorders recorded what came, and then, where none of them stopped early, dump
-- workers carried out the orders. Where none stopped early and no order broke, there is no stop and the step is whole
pub record IsStep {L : Type 0} (sent : L → List Sent) (failed : L → ℕ) (e : RecordingContext) (orders : List Order)
    (stop : Option Stop) (before after : RunState Supply L) : Type 0 where
  -- the recorders: why some stopped early, and the stores and the sources as they left them
  pub fault : Option Fault
  pub mid : List Held
  pub records : Records e before.stores mid fault before.sources after.sources
  -- the dump workers: why orders broke, how much of the window was spent, and the stores and the links as they left
  -- them
  pub broken : Option OrderBroken
  pub spent : ℕ
  pub dumps : CarriesOut sent failed e.ids (orders_after fault orders) (states_of mid) (states_of after.stores)
      before.links after.links broken spent
  pub labels : labels_of after.stores ≡ labels_of before.stores
  pub sound : All (λ h. IsState h.state) after.stores
  -- where a recorder stopped early nothing was dumped
  pub early : IfSome fault (λ _. (broken ≡ None) × (spent ≡ 0) × (after.stores ≡ mid) × (after.links ≡ before.links))
  pub stop_is : stop ≡ stop_for (cause_of e.step fault broken) spent

-- in a whole step each store had a step run: the offers of what the sources gave, and then its order, where it has
-- one. Each order was one link's, once, and the links sent what the orders were given; nothing is left in the sources
-- for the step
pub record IsWholeStep {L : Type 0} (sent : L → List Sent) (failed : L → ℕ) (e : RecordingContext) (orders : List Order)
    (before after : RunState Supply L) : Type 0 where
  pub labels : labels_of after.stores ≡ labels_of before.stores
  pub gave : ℕ → List Stored
  pub runs : (k : ℕ) → k < length after.stores → IsStepRun (map (offers e k) (given_in e.step before.sources))
      (wanted orders k) (gave k)
      (opening_at (states_of before.stores) k) (opening_at (states_of after.stores) k)
  pub places : List (List ℕ)
  pub once : (k : ℕ) → sum_by (times k) places ≡ times k (places_of orders)
  pub links : AllTook sent failed e.ids gave places before.links after.links
  pub nothing_left : All (λ s. s e.step ≡ []) after.sources
  pub others : (t : ℕ) → t ≢ e.step → given_in t after.sources ≡ given_in t before.sources

-- a source keeps the rest of what it gave in a step
abbrev pub KeepsRest : ℕ → Supply → Supply → Type 0
KeepsRest step before after = (gave : List SpacePacket) × (before step ≡ gave ++ after step)

-- a cause that ends a run in this step
abbrev pub IsCauseIn : ℕ → Cause → Type 0
IsCauseIn step (NoMemory at) = at ≡ step
IsCauseIn step (LinkFailed at) = at ≡ step
IsCauseIn step (LogMismatch at) = at ≡ step
IsCauseIn step cause = ⊥

-- the cause is not that a store refused a call
abbrev pub NeverRefused : Cause → Type 0
NeverRefused cause = (step : ℕ) → cause ≢ LogMismatch step

-- a step that was broken off leaves the stores in their order, and each source keeps the rest of what it gave
pub record StepStopped {L : Type 0} (step : ℕ) (before after : RunState Supply L) (cause : Cause) : Type 0 where
  pub cause_is : IsCauseIn step cause
  pub labels : labels_of after.stores ≡ labels_of before.stores
  pub keep : AllZip (KeepsRest step) before.sources after.sources
  pub others : (t : ℕ) → t ≢ step → given_in t after.sources ≡ given_in t before.sources
