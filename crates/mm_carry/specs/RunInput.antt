-- What a run is given, and what comes in it.
use Rattle.std.specs.Prelude.{ℕ, ◌+◌, nat_lt, List, map, filter, flat_map}
use Rattle.std.specs.List.{position_or_len}
use Rattle.mm_carry.specs.Words.{Dumping, row, stores, steps, Table, amount, Amounts, State, count_of, opening_at}
use Rattle.mm_carry.specs.Words.{Event, Held, states_of, Holdings, has_id}
use Rattle.mm_carry.specs.Words.{RecordingContext, recording, offers, Supply, Order}

-- what a run is given: the problem, the plan's amounts, the moment before the first step, the memory, and what each
-- source gives in each step
pub record RunInput : Type 0 where
  pub problem : Dumping
  pub amounts : Amounts
  pub base : ℕ
  pub memory : Holdings
  pub gives : List Supply

-- what the recorders of a step share, over the stores of the problem
abbrev pub step_of : RunInput → ℕ → RecordingContext
step_of m t = record { step = t; now = m.base + t; routes = m.memory.routes; ids = map (λ r. r.id) m.problem.rows }

-- what they share over the stores of a memory
abbrev pub recording_in : RunInput → ℕ → List Held → RecordingContext
recording_in m t stores = recording t (m.base + t) m.memory.routes stores

-- the offers to a store in a step: for each source, those of the packets that it gives
abbrev pub offered : RunInput → ℕ → ℕ → List (List Event)
offered m s t = map (offers (step_of m t) s) (map (λ gives. gives t) m.gives)

-- how many packets come to a store in a step
abbrev pub came : RunInput → ℕ → ℕ → ℕ
came m s t = count_of (offered m s t)

-- the problem, with what comes in place of the forecast
abbrev pub as_came : RunInput → Dumping
as_came m = record m.problem { arrived = flat_map (λ t. map (λ s. came m s t) (stores m.problem)) (steps m.problem) }

-- the place of a store of the problem in the memory
abbrev pub place_in_memory : RunInput → ℕ → ℕ
place_in_memory m s = position_or_len (has_id (row m.problem s).id) m.memory.stores

-- the state of a store of the problem, in a memory with the same stores in the same order
abbrev pub store_state : RunInput → List Held → ℕ → State
store_state m held s = opening_at (states_of held) (place_in_memory m s)

-- a plan, carried out over a memory with these sources
abbrev pub run_input : Dumping → Table → ℕ → Holdings → List Supply → RunInput
run_input problem plan base memory sources =
    record { problem = problem; amounts = amount plan; base = base; memory = memory; gives = sources }

-- the orders of a step: one for each store from which packets are to leave, in the problem's order, which names its
-- place in the memory
abbrev pub step_orders : RunInput → ℕ → List Order
step_orders m t = map (λ s. record { place = place_in_memory m s; amount = m.amounts s t })
    (filter (λ s. nat_lt 0 (m.amounts s t)) (stores m.problem))
