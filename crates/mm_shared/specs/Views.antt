-- What contracts see of shared stores, of their ports and of the calls made on them.
use Rattle.std.specs.Prelude.{ℕ, ◌+◌, ◌-◌, ◌<◌, List, [], ◌∷◌, ◌++◌, length, map, slice_index_or, drop, replicate}
use Rattle.mm_shared.specs.Words.{TableId, Entry, Event, Reply, State, entry, IsRun, opening_at, IsShuffle}
use Rattle.mm_shared.specs.declared.counters.StoreCounters.{StoreCounters}
use Rattle.mm_shared.specs.Rule.{calls_on}

-- stores that threads share: which table it is, how many stores and how many seats there are
pub record StoresView : Type 0 where
  pub id : TableId
  pub many : ℕ
  pub seats : ℕ

-- where calls count from: the table of the stores, and the states that they were in
pub record Origin : Type 0 where
  pub table : TableId
  pub states : List State

abbrev pub origin : TableId → List State → Origin
origin table states = record { table = table; states = states }

-- a port: where its calls count from, the number of its seat, and the list of the calls made through it
pub record PortView : Type 0 where
  pub of : Origin
  pub number : ℕ
  pub list : List (ℕ × Entry)

-- ports that are still together: where their calls count from, the first seat's number, and the list of calls of each
pub record PortsView : Type 0 where
  pub of : Origin
  pub first : ℕ
  pub lists : List (List (ℕ × Entry))

-- a port with one call more in its list
abbrev pub with_call : PortView → ℕ → Event → Reply → PortView
with_call port k event reply = record port { list = port.list ++ (k, entry port.number event reply) ∷ [] }

-- all ports of a store with this many seats, through which no call was made
abbrev pub new_ports : Origin → ℕ → PortsView
new_ports of seats = record { of = of; first = 0; lists = replicate seats [] }

-- the first of the ports
abbrev pub first_port : PortsView → PortView
first_port ports = record { of = ports.of; number = ports.first; list = slice_index_or ports.lists 0 [] }

-- the ports without the first
abbrev pub other_ports : PortsView → PortsView
other_ports ports = record ports { first = ports.first + 1; lists = drop 1 ports.lists }

-- the ports with this one before them
abbrev pub with_port : PortView → PortsView → PortsView
with_port port ports = record { of = port.of; first = port.number; lists = port.list ∷ ports.lists }

-- the ports that are left if this many workers have the first ones
abbrev pub ports_after : Origin → ℕ → ℕ → PortsView
ports_after of workers left = record { of = of; first = workers; lists = replicate left [] }

-- what a store has counted, and how many packets it holds
abbrev pub counters_of : State → StoreCounters
counters_of s = record { offered = s.offered; lost = s.lost; deleted = s.deleted; held = length s.store.content }

-- what the counters rose by since they were these, and how many packets are held
abbrev pub rise : StoreCounters → StoreCounters → StoreCounters
rise before after = record after {
  offered = after.offered - before.offered;
  lost = after.lost - before.lost;
  deleted = after.deleted - before.deleted;
}

-- there is a legal log from the first state to the second that is a shuffle of these lists, one for each seat
pub record HasLegalLog (lists : List (List Entry)) (s t : State) : Type 0 where
  pub log : List Entry
  pub run : IsRun s log t
  pub shuffle : IsShuffle lists log

-- a legal log that is a shuffle of the calls on it in these lists, one for each seat, leads each store from its state
-- before to its state after
abbrev pub HaveLogs : List (List (ℕ × Entry)) → List State → List State → Type 0
HaveLogs lists before after =
    (k : ℕ) → k < length after → HasLegalLog (map (calls_on k) lists) (opening_at before k) (opening_at after k)
