-- Named packet stores in order, and the rows of the storage control that leads to them.
use Rattle.std.specs.Prelude.{◌≡◌, ◌≢◌, ◌<◌, ◌≤◌, ℕ, Bool, if◌then◌else◌, List, length, map, find, slice_get, bytes_eq}
use Rattle.std.specs.Prelude.{AllPairs, Option}
use Rattle.std.specs.Option.{option_map}
use Rattle.mm_base.specs.declared.limits.TheConstants.{MAX_STORES}
use Rattle.mm_base.specs.declared.rows.RouteRow.{RouteRow}
use Rattle.mm_desk.specs.declared.held.Held.{Held}
use Rattle.mm_desk.specs.Machine.{State}

-- the stores of a memory, and its routes
pub record Holdings : Type 0 where
  pub stores : List Held
  pub routes : List RouteRow

-- two stores with identifiers of their own
abbrev pub HaveOtherIds : Held → Held → Type 0
HaveOtherIds a b = a.id ≢ b.id

-- at most 16 stores with identifiers of their own
pub record AreHeld (stores : List Held) : Type 0 where
  pub at_most : length stores ≤ MAX_STORES
  pub named : AllPairs HaveOtherIds stores

-- the identifiers of stores, in order
abbrev pub ids_of : List Held → List (List ℕ)
ids_of stores = map (λ h. h.id) stores

-- whether a store has the identifier
abbrev pub has_id : List ℕ → Held → Bool
has_id id h = bytes_eq h.id id

-- the store with this identifier
abbrev pub store_of : List ℕ → List Held → Option Held
store_of id stores = find (has_id id) stores

-- the state of the store with this identifier
abbrev pub state_of : List ℕ → Holdings → Option State
state_of id memory = option_map (λ h. h.state) (store_of id memory.stores)

-- the store with this identifier stands at this place
pub record StandsAt (id : List ℕ) (stores : List Held) (place : ℕ) : Type 0 where
  pub within : place < length stores
  pub store : store_of id stores ≡ slice_get stores place

-- the stores, with the one that has this identifier changed
abbrev pub with_changed : List ℕ → (Held → Held) → List Held → List Held
with_changed id change stores = map (λ h. if has_id id h then change h else h) stores
