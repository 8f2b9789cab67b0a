-- What one store answers to a change, and the store that it leaves.
use Rattle.std.specs.Prelude.{◌≢◌}
use Rattle.mm_memory.specs.Words.{Option, Some, None, Result, Ok, Err, StateFault, State, step, rest_fault, Fault, Held}
use Rattle.mm_memory.specs.Words.{Enable, Disable, Begin, Abort, DeleteContent, Resize, SetKind, SetChannel}
use Rattle.mm_desk.specs.Machine.{begin, abort, delete}
use Rattle.mm_desk.specs.Rest.{resize_fault}
use Rattle.mm_memory.specs.declared.instruction.StoreChange.{StoreChange}
use Rattle.mm_memory.specs.Fault.{of_state}
use Rattle.mm_desk.specs.declared.event.Event.TheVariants as event

-- done, or a refusal
abbrev pub Outcome : Type 0
Outcome = Result (Unit {0}) Fault

-- the outcome of what a store's state answered
abbrev pub outcome_of : {A : Type 0} → Result A StateFault → Outcome
outcome_of (Ok answer) = Ok tt
outcome_of (Err reason) = Err (of_state reason)

-- the outcome of what is refused for this reason, or not at all
abbrev pub refusal_of : Option StateFault → Outcome
refusal_of None = Ok tt
refusal_of (Some reason) = Err (of_state reason)

-- what was done, and what it left; a refusal has changed nothing
abbrev pub done_or : {A : Type 0} → Outcome → A → A → Outcome × A
done_or (Ok done) changed before = (Ok tt, changed)
done_or (Err reason) changed before = (Err reason, before)

-- a store with what its state answered and left
abbrev pub answered : {A : Type 0} → Held → Result A StateFault × State → Outcome × Held
answered h told = (outcome_of told.0, record h { state = told.1 })

-- what a store answers to a change, and the store that it leaves
abbrev pub act : StoreChange → Held → Outcome × Held
act Enable h = (Ok tt, record h { state = (step h.state event.Enable).1 })
act Disable h = (Ok tt, record h { state = (step h.state event.Disable).1 })
act (Begin from to) h = answered h (begin h.state from to)
act Abort h = answered h (abort h.state)
act (DeleteContent limit) h = answered h (delete h.state limit)
act (Resize size) h =
    done_or (refusal_of (resize_fault h.state size))
    (record h { state = record h.state { store = record h.state.store { size = size } } }) h
act (SetKind kind) h =
    done_or (refusal_of (rest_fault h.state))
    (record h { state = record h.state { store = record h.state.store { kind = kind } } }) h
act (SetChannel channel) h = done_or (refusal_of (rest_fault h.state)) (record h { channel = channel }) h

-- a change that may find no memory; the kind that a store has takes none
abbrev pub TakesMemory : StoreChange → Held → Type 0
TakesMemory (Resize size) h = Unit {0}
TakesMemory (SetKind kind) h = kind ≢ h.state.store.kind
TakesMemory other h = ⊥
