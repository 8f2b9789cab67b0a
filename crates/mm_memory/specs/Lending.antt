-- A store's state that is lent, and the memory once it is given back.
use Rattle.mm_memory.specs.Words.{ℕ, List, Option, State}
use Rattle.std.specs.Borrow.{MutBor, Fml, LendsIf}
use Rattle.mm_desk.specs.contracts.state.StoreState.{the_row as state_row}
use Rattle.mm_memory.specs.contracts.memory.Memory.{the_row as memory_row}
use Rattle.mm_memory.specs.Holdings.{Holdings, with_changed}

-- the memory with this state of the store with this identifier
abbrev pub with_state : List ℕ → Holdings → State → Holdings
with_state id memory state = record memory { stores = with_changed id (λ h. record h { state = state }) memory.stores }

-- the state of the store with this identifier is lent, and what is left in it is the store's state then
abbrev pub LendsState : MutBor Holdings → List ℕ → Option (MutBor State) → Fml
LendsState memory id lent = LendsIf memory_row state_row memory lent (with_state id memory.now) memory.now
