-- The calls through a port while packets are offered. No public clause cites this module.
use Rattle.std.specs.Prelude.{◌≡◌, ◌⊎◌, ℕ, ◌<◌, ◌==◌, Bool, true, false, if◌then◌else◌, List, [], ◌∷◌, ◌++◌, length}
use Rattle.std.specs.Prelude.{map, filter, Any, bytes_eq, Result, IfErr, is_ok}
use Rattle.mm_record.specs.Words.{RouteRow, SpacePacket, Entry, Event, Offer, Fault, AreTaken, asked_in, StoreLabel}
use Rattle.mm_record.specs.Words.{list_at, end_of, ids_of, id_at, AreNamed, Origin, PortView, StoresView}
use Rattle.mm_desk.specs.declared.fault.Fault.TheVariants.{NoMemory}
use Rattle.mm_record.specs.declared.context.StepContext.{StepContext}
use Rattle.mm_record.specs.Recorded.{RecordingContext, open_recording, offers}
use Rattle.mm_record.specs.Steps.{IsRefusedWith, OfferedInPart}

-- what was asked of the store at an index through a port
abbrev pub asked : PortView → ℕ → List Event
asked port k = asked_in (list_at port k)

-- the step of recorders
abbrev pub step_of : {R : Type 0} → StepContext R → RecordingContext
step_of context = open_recording context.step context.moment context.control.now context.labels.now

-- the offers of a packet to the stores, by their indices: one to the store at this index, and none to the others
abbrev pub offer_at : RecordingContext → SpacePacket → ℕ → ℕ → List Event
offer_at e p index k = if k == index then Offer e.now p ∷ [] else []

-- the offers of a packet to the store at an index: one for each row that leads to it
abbrev pub offers_by : RecordingContext → SpacePacket → List RouteRow → ℕ → List Event
offers_by e p rows k = map (λ _. Offer e.now p) (filter (bytes_eq (id_at e.ids k)) (map (λ r. r.store) rows))

-- the offers of a packet to the store at an index: one if it is routed there
abbrev pub offers_of : RecordingContext → SpacePacket → ℕ → List Event
offers_of e p k = offers e k (p ∷ [])

-- packets may be offered to these stores, under these labels, through a port of them
pub record MayOffer (labels : List StoreLabel) (stores : StoresView) (of : Origin) : Type 0 where
  pub named : AreNamed (ids_of labels)
  pub as_many : length labels ≡ stores.many
  pub of_them : of.table ≡ stores.id

-- all of these offers were made and taken, after those in the old list
pub record OfferedWhole (more : List Event) (old new : List Entry) : Type 0 where
  pub all : asked_in new ≡ asked_in old ++ more
  pub taken : AreTaken old → AreTaken new

-- all of these offers were made and taken, or only the first of them were made
abbrev pub OfferedUpTo : Bool → List Event → List Entry → List Entry → Type 0
OfferedUpTo true more old new = OfferedWhole more old new
OfferedUpTo false more old new = OfferedInPart (asked_in old) more (asked_in new)

-- an offer to one of the stores was refused with this fault
pub record HasRefusal (count : ℕ) (port : PortView) (fault : Fault) : Type 0 where
  pub index : ℕ
  pub within : index < count
  pub refused : Any (λ e. IsRefusedWith fault e.event e.reply) (list_at port index)

-- why a recorder stops early: out of memory, or an offer was refused with this fault
abbrev pub IsReason : ℕ → PortView → Fault → Type 0
IsReason count port fault = (fault ≡ NoMemory) ⊎ HasRefusal count port fault

-- these offers were made to the stores, and none was refused; or only the first of them were made, for this fault
pub record Offers {T : Type 0} (e : RecordingContext) (more : ℕ → List Event) (old new : PortView)
    (result : Result T Fault) : Type 0 where
  pub end : end_of new ≡ end_of old
  pub lists : (k : ℕ) → k < length e.ids → OfferedUpTo (is_ok result) (more k) (list_at old k) (list_at new k)
  pub reason : IfErr result (IsReason (length e.ids) new)
