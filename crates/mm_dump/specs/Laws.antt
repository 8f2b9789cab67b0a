-- Laws of dump orders, over the definitions alone.
use Rattle.std.specs.Prelude.{◌≡◌, ℕ, List, All, None}
use Rattle.mm_store.specs.declared.stored.Stored.{Stored}
use Rattle.mm_desk.specs.declared.entry.Entry.{Entry}
use Rattle.mm_desk.specs.declared.held.Held.{Held}
use Rattle.mm_desk.specs.Machine.{State}
use Rattle.mm_desk.specs.Runs.{IsRun, opening_at}
use Rattle.mm_shared.specs.Stores.{states_of}
use Rattle.mm_dump.specs.declared.order.Order.{Order}
use Rattle.mm_dump.specs.Broken.{IsBrokenOrder}
use Rattle.mm_dump.specs.Dumped.{AllDumped, AllSettled}
use Rattle.mm_dump.specs.Sending.{Sent}

-- an order that broke leaves the store, its counters and its storage switch as they were, and no retrieval is on
abbrev pub BrokenOrdersChangeNothing : Type 0
BrokenOrdersChangeNothing = (s t : State) (seat wanted : ℕ) (gave : List Stored) (calls : List Entry)
    → IsBrokenOrder seat wanted gave calls → IsRun s calls t → (t ≡ s) × (t.retrieval ≡ None)

-- where no retrieval is on at any store, none is on at a store that an order names
abbrev pub IdleStoresSuitOrders : Type 0
IdleStoresSuitOrders = (stores : List Held) (orders : List Order) → All (λ h. h.state.retrieval ≡ None) stores
    → All (λ o. (opening_at (states_of stores) o.place).retrieval ≡ None) orders

-- where no order broke, every order was carried out whole
abbrev pub SettledOrdersAreDumped : {L : Type 0} → (L → List Sent) → (L → ℕ) → Type 0
SettledOrdersAreDumped {L} sent failed = (ids : List (List ℕ)) (orders : List Order) (before after : List State)
    (old new : List L) → AllSettled sent failed ids orders None before after old new
    → AllDumped sent failed ids orders before after old new
