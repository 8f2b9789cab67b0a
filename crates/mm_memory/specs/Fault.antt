-- The refusals of this crate, with those of the crates below.
use Rattle.mm_memory.specs.Words.{StateFault, Fault}
use Rattle.mm_base.specs.declared.refusal.Refusal.{Refusal}
use Rattle.mm_control.specs.Fault.{refusal_of as control_refusal}
use Rattle.mm_desk.specs.Fault.{refusal_of as state_refusal}
use Rattle.mm_memory.specs.declared.fault.Fault.TheVariants.{NoMemory, BadId, BadEnum, NoSuchStore, Exists}
use Rattle.mm_memory.specs.declared.fault.Fault.TheVariants.{TooManyStores, BadSize, State, Control}
use Rattle.mm_base.specs.declared.refusal.Refusal.TheVariants as refusal
use Rattle.mm_desk.specs.declared.fault.Fault.TheVariants as state

-- which refusal it is
abbrev pub refusal_of : Fault → Refusal
refusal_of = elim [
  | NoMemory ↦ refusal.NoMemory
  | BadId ↦ refusal.BadId
  | BadEnum ↦ refusal.BadEnum
  | NoSuchStore ↦ refusal.NoSuchStore
  | Exists ↦ refusal.Exists
  | TooManyStores ↦ refusal.TooManyStores
  | BadSize ↦ refusal.BadSize
  | State fault ↦ state_refusal fault
  | Control fault ↦ control_refusal fault
]

-- the refusal of a store's state, as one of this crate
abbrev pub of_state : StateFault → Fault
of_state state.NoMemory = NoMemory
of_state other = State other
