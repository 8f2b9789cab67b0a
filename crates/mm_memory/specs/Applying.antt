-- Applying an instruction, and a request, which is its instructions in order.
use Rattle.std.specs.Prelude.{◌≡◌, ◌⊎◌, if◌then◌else◌, ◌∷◌, ◌++◌}
use Rattle.mm_memory.specs.Words.{ℕ, Bool, not, nat_lt, List, [], length, filter, Option, Some, None, Ok, Err}
use Rattle.mm_memory.specs.Words.{MAX_STORES, RouteRow, empty_store, has_row, takes, with_row, without_row}
use Rattle.mm_memory.specs.Words.{without_store, opening, rest_fault, Row, Answer, Fault, Held, Action, Create, Delete}
use Rattle.mm_memory.specs.Words.{Route, Report, Changes, RouteChange}
use Rattle.mm_control.specs.declared.fault.Fault.TheVariants.{NoSuchRoute, TableFull}
use Rattle.mm_memory.specs.declared.answer.Answer.TheVariants.{Done, Refused}
use Rattle.mm_memory.specs.declared.fault.Fault.TheVariants.{NoMemory, NoSuchStore, Exists, TooManyStores, Control}
use Rattle.mm_memory.specs.declared.instruction.StoreConfig.{StoreConfig}
use Rattle.mm_memory.specs.declared.instruction.RouteChange.TheVariants.{Add, Delete as DeleteRow}
use Rattle.mm_memory.specs.Acting.{Outcome, refusal_of, done_or, act, TakesMemory}
use Rattle.mm_memory.specs.Holdings.{Holdings, has_id, store_of, with_changed}
use Rattle.mm_memory.specs.Instruction.{Parsed}

-- the row that a report type is for a store
abbrev pub route_to : List ℕ → Row → RouteRow
route_to id row = record { apid = row.apid; service = row.service; subtype = row.subtype; store = id }

-- a new store: empty, and its storage off
abbrev pub new_store : List ℕ → StoreConfig → Held
new_store id config =
    record { id = id; channel = config.channel; state = opening (empty_store config.kind config.size) }

-- the stores without the one with this identifier
abbrev pub without : List ℕ → List Held → List Held
without id stores = filter (λ h. not (has_id id h)) stores

-- done where the test passes, and otherwise refused
abbrev pub done_if : Bool → Fault → Outcome
done_if passed reason = if passed then Ok tt else Err reason

-- a store that is not there may be created, and then stands last
abbrev pub created : List ℕ → StoreConfig → Holdings → Outcome × Holdings
created id config m =
    done_or (done_if (nat_lt (length m.stores) MAX_STORES) TooManyStores)
    (record m { stores = m.stores ++ new_store id config ∷ [] }) m

-- an action for a store that is not there
abbrev pub on_no_store : List ℕ → Action → Holdings → Outcome × Holdings
on_no_store id (Create config) m = created id config m
on_no_store id other m = (Err NoSuchStore, m)

-- a store that is at rest is deleted, and its routes with it
abbrev pub deleted : List ℕ → Held → Holdings → Outcome × Holdings
deleted id h m = done_or (refusal_of (rest_fault h.state))
    (record { stores = without id m.stores; routes = without_store id m.routes }) m

-- a store is changed in its place
abbrev pub changed : List ℕ → Outcome × Held → Holdings → Outcome × Holdings
changed id left m = (left.0, record m { stores = with_changed id (λ _. left.1) m.stores })

-- a row is added to the storage control, or deleted
abbrev pub routed : RouteChange → RouteRow → Holdings → Outcome × Holdings
routed Add row m = done_or (done_if (takes row m.routes) (Control TableFull))
    (record m { routes = with_row row m.routes }) m
routed DeleteRow row m =
    done_or (done_if (has_row row m.routes) (Control NoSuchRoute)) (record m { routes = without_row row m.routes }) m

-- an action for a store that is there
abbrev pub on_store : List ℕ → Action → Held → Holdings → Outcome × Holdings
on_store id (Create config) h m = (Err Exists, m)
on_store id Delete h m = deleted id h m
on_store id (Route change row) h m = routed change (route_to id row) m
on_store id Report h m = (Ok tt, m)
on_store id (Changes change) h m = changed id (act change h) m

-- an action for the store with this identifier, where there is one
abbrev pub for_store : List ℕ → Action → Option Held → Holdings → Outcome × Holdings
for_store id action (Some h) m = on_store id action h m
for_store id action None m = on_no_store id action m

-- the outcome of an instruction, and the memory that it leaves
abbrev pub apply : Parsed → Holdings → Outcome × Holdings
apply (Ok i) m = for_store i.id i.action (store_of i.id m.stores) m
apply (Err reason) m = (Err reason, m)

-- an action that may find no memory, for the store with this identifier, where there is one
abbrev pub MayLack : Action → Option Held → Type 0
MayLack (Create config) store = Unit {0}
MayLack (Changes change) (Some h) = TakesMemory change h
MayLack other store = ⊥

-- what came is what is wanted; or memory is taken, nothing else refuses, and the refusal is out of memory, which has
-- changed nothing
abbrev pub ComesUnlessNoMemory : {A : Type 0} → Type 0 → Outcome × A → A → Outcome × A → Type 0
ComesUnlessNoMemory Lacks wanted before came =
    (came ≡ wanted) ⊎ (Lacks × (wanted.0 ≡ Ok tt) × (came ≡ (Err NoMemory, before)))

-- an instruction that may find no memory
abbrev pub LacksMemory : Parsed → Holdings → Type 0
LacksMemory (Ok i) m = MayLack i.action (store_of i.id m.stores)
LacksMemory (Err reason) m = ⊥

-- an instruction is applied
abbrev pub Applies : Parsed → Holdings → Outcome × Holdings → Type 0
Applies i m came = ComesUnlessNoMemory (LacksMemory i m) (apply i m) m came

-- an answer tells an outcome
abbrev pub outcome_told : Answer → Outcome
outcome_told Done = Ok tt
outcome_told (Refused reason) = Err reason

-- instructions are applied in order, each by itself, with one answer for each
abbrev pub AppliesEach : List Parsed → Holdings → List Answer → Holdings → Type 0
AppliesEach [] m [] left = left ≡ m
AppliesEach [] m (answer ∷ answers) left = ⊥
AppliesEach (i ∷ is) m [] left = ⊥
AppliesEach (i ∷ is) m (answer ∷ answers) left =
    (next : Holdings) × Applies i m (outcome_told answer, next) × AppliesEach is next answers left
