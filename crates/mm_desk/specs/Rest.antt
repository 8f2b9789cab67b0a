-- A store at rest, which may be resized, change its kind, or be deleted.
use Rattle.std.specs.Prelude.{ℕ, nat_lt, if◌then◌else◌, length, Option, Some, None, is_some}
use Rattle.mm_desk.specs.Types.{Fault, HoldsMore, Busy, StorageOn}
use Rattle.mm_desk.specs.Machine.{State}

-- why a store is not at rest
abbrev pub rest_fault : State → Option Fault
rest_fault s = if s.storage then Some StorageOn else if is_some s.retrieval then Some Busy else None

-- why a store cannot get this size
abbrev pub resize_fault : State → ℕ → Option Fault
resize_fault s size = held_or (rest_fault s)
  where
    held_or : Option Fault → Option Fault
    held_or (Some fault) = Some fault
    held_or None = if nat_lt size (length s.store.content) then Some HoldsMore else None
