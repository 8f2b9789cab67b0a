-- The stores of a step that workers share: a table of them, and a port for every worker.
use Rattle.std.specs.Prelude.{◌≡◌, ℕ, ◌+◌, ◌-◌, ◌<◌, ◌≤◌, List, [], ◌∷◌, length, map, slice_index_or, bytes_eq}
use Rattle.std.specs.Prelude.{AllPairs, All, false, vec_capacity, Vec}
use Rattle.mm_shared.specs.Words.{Entry, State, opening_at, MAX_SEATS}
use Rattle.std.specs.Global.{Global}
use Rattle.mm_desk.specs.declared.held.Held.{Held}
use Rattle.mm_shared.specs.Rule.{calls_on}
use Rattle.mm_shared.specs.Views.{Origin, PortView, PortsView, StoresView, HasLegalLog, new_ports, ports_after}
use Rattle.mm_shared.specs.declared.label.StoreLabel.{StoreLabel}
use Rattle.mm_shared.specs.declared.stores.OpenStores.{OpenStores}

-- the states of stores
abbrev pub states_of : List Held → List State
states_of stores = map (λ h. h.state) stores

-- the identifiers and the channels of stores
abbrev pub labels_of : List Held → List (List ℕ × ℕ)
labels_of stores = map (λ h. (h.id, h.channel)) stores

-- the label of a store
abbrev pub label_of : Held → StoreLabel
label_of h = record { id = h.id; channel = h.channel }

-- the stores with these labels and these states
abbrev pub held_stores : List StoreLabel → List State → List Held
held_stores [] states = []
held_stores (label ∷ labels) [] = []
held_stores (label ∷ labels) (state ∷ states) =
    record { id = label.id; channel = label.channel; state = state } ∷ held_stores labels states

-- the identifiers of labels
abbrev pub ids_of : List StoreLabel → List (List ℕ)
ids_of labels = map (λ s. s.id) labels

-- the identifier at an index
abbrev pub id_at : List (List ℕ) → ℕ → List ℕ
id_at ids k = slice_index_or ids k []

-- no two stores have one identifier
abbrev pub AreNamed : List (List ℕ) → Type 0
AreNamed ids = AllPairs (λ a b. bytes_eq a b ≡ false) ids

-- the identifiers and the channels of labels
abbrev pub names_of : List StoreLabel → List (List ℕ × ℕ)
names_of labels = map (λ s. (s.id, s.channel)) labels

-- stores can be given back under these labels: all their ports are together, and there is a label for each
pub record MayClose (stores : StoresView) (ports : PortsView) (labels : List StoreLabel) : Type 0 where
  pub of : ports.of.table ≡ stores.id
  pub first : ports.first ≡ 0
  pub all : length ports.lists ≡ stores.seats
  pub as_many : length labels ≡ stores.many

-- these are all ports of stores, and there are some
pub record AreAllPorts (stores : StoresView) (ports : PortsView) : Type 0 where
  pub of : ports.of.table ≡ stores.id
  pub first : ports.first ≡ 0
  pub all : length ports.lists ≡ stores.seats
  pub some_port : 0 < stores.seats

-- the list of calls made through a port on the store of an index
abbrev pub list_at : PortView → ℕ → List Entry
list_at port k = calls_on k port.list

-- the lists of calls of workers on the store of an index
abbrev pub lists_at : ℕ → List PortView → List (List Entry)
lists_at k workers = map (λ w. list_at w k) workers

-- no call was made through a port
abbrev pub IsFresh : PortView → Type 0
IsFresh port = port.list ≡ []

-- the place of a port, which no call changes: its stores, and the number of its seat
abbrev pub end_of : PortView → Origin × ℕ
end_of port = (port.of, port.number)

-- the places of the ports of workers
abbrev pub all_ends : List PortView → List (Origin × ℕ)
all_ends workers = map end_of workers

-- workers have ports of these stores, with the seats from this number on
abbrev pub AreWorkers : Origin → ℕ → List PortView → Type 0
AreWorkers of first workers =
    (i : ℕ) (d : PortView) → i < length workers → end_of (slice_index_or workers i d) ≡ (of, first + i)

-- a list is empty, and has room for this many elements
pub record HasRoom {A : Type 0} (list : Vec A Global) (count : ℕ) : Type 0 where
  pub none : list.items ≡ []
  pub room : count ≤ vec_capacity list

-- a list has these elements, and the room that it had
pub record IsFilled {A : Type 0} (before after : Vec A Global) (all : List A) : Type 0 where
  pub items : after.items ≡ all
  pub capacity : vec_capacity after ≡ vec_capacity before

-- open stores as they were when calls began to count
abbrev pub stores_in : OpenStores → List Held
stores_in it = held_stores it.labels.items it.rest.of.states

-- open stores, in a step and between steps: each has a label, and there are seats and room for all workers, and room to
-- give the stores back
pub record AreKept (it : OpenStores) : Type 0 where
  pub of : it.rest.of.table ≡ it.stores.id
  pub many : it.stores.many ≡ length it.labels.items
  pub states : length it.rest.of.states ≡ length it.labels.items
  pub seats : it.stores.seats ≡ MAX_SEATS
  pub empty : it.room.items ≡ []
  pub room : length it.labels.items ≤ vec_capacity it.room
  pub seating : MAX_SEATS ≤ vec_capacity it.workers

-- open stores between steps: no worker has a port, and no call was made
pub record AreAtRest (it : OpenStores) : Type 0 where
  pub kept : AreKept it
  pub none : it.workers.items ≡ []
  pub all : it.rest ≡ new_ports it.rest.of MAX_SEATS

-- open stores in a step: each worker has a port, and the other ports are together
pub record AreOpen (it : OpenStores) : Type 0 where
  pub kept : AreKept it
  pub workers : AreWorkers it.rest.of 0 it.workers.items
  pub few : length it.workers.items ≤ MAX_SEATS
  pub rest : it.rest ≡ ports_after it.rest.of (length it.workers.items) (MAX_SEATS - length it.workers.items)

-- these stores are open for this many workers, and no call was made
pub record AreNew (before : List Held) (workers : ℕ) (it : OpenStores) : Type 0 where
  pub labels : names_of it.labels.items ≡ labels_of before
  pub states : it.rest.of.states ≡ states_of before
  pub are_open : AreOpen it
  pub count : length it.workers.items ≡ workers
  pub fresh : All IsFresh it.workers.items

-- a legal log that is a shuffle of the workers' calls on it leads each store from its state before to its state after
abbrev pub HaveLegalLogs : List PortView → List State → List State → Type 0
HaveLegalLogs workers before after =
    (k : ℕ) → k < length after → HasLegalLog (lists_at k workers) (opening_at before k) (opening_at after k)
