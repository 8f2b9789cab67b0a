-- What a store refuses.
use Rattle.mm_base.specs.declared.refusal.Refusal.{Refusal}
use Rattle.mm_base.specs.declared.refusal.Refusal.TheVariants as refusal
use Rattle.mm_store.specs.declared.fault.Fault.{Fault as StoreFault}
use Rattle.mm_store.specs.declared.fault.Fault.TheVariants as store
use Rattle.mm_desk.specs.Types.{Fault, NoMemory, HoldsMore, Disabled, Busy, Idle, BadRange, ClockEnd, StorageOn}

-- which refusal it is
abbrev pub refusal_of : Fault → Refusal
refusal_of = elim [
  | NoMemory ↦ refusal.NoMemory
  | HoldsMore ↦ refusal.HoldsMore
  | Disabled ↦ refusal.Disabled
  | Busy ↦ refusal.Busy
  | Idle ↦ refusal.NoRetrieval
  | BadRange ↦ refusal.BadRange
  | ClockEnd ↦ refusal.ClockEnd
  | StorageOn ↦ refusal.StorageOn
]

-- the refusal of a packet store, as one of this crate
abbrev pub fault_of_store : StoreFault → Fault
fault_of_store store.NoMemory = NoMemory
fault_of_store store.HoldsMore = HoldsMore
