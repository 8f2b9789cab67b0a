-- The report of a run, by the plan.
use Rattle.std.specs.Prelude.{◌≡◌, ℕ, ◌+◌, ◌-◌, ◌<◌, nat_lt, List, length, map, filter, sum_by, slice_index}
use Rattle.std.specs.Prelude.{slice_index_or}
use Rattle.std.specs.List.{range_with_len}
use Rattle.mm_carry.specs.Words.{Dumping, arrivals, stores, Amounts, left, written, lost, State, opening_at, Held}
use Rattle.mm_carry.specs.Words.{states_of, Order, Reported, totals_of}
use Rattle.mm_shared.specs.declared.counters.StoreCounters.{StoreCounters}
use Rattle.mm_shared.specs.Views.{counters_of}
use Rattle.mm_report.specs.declared.counts.StepCounts.{StepCounts}
use Rattle.mm_carry.specs.RunInput.{RunInput, store_state}

-- what a step brings to a store: what was forecast, what came, and what the plan loses, dumps and leaves of what came
abbrev pub planned_counts : Dumping → Dumping → Amounts → ℕ → ℕ → StepCounts
planned_counts forecast came x s t = record {
  forecast = arrivals forecast s t;
  arrived = arrivals came s t;
  lost = lost came x s t;
  dumped = written came x s t - left came x s t;
  held = left came x s t;
}

-- what the first steps bring, to each store in the problem's order
abbrev pub rows_of : Dumping → Dumping → Amounts → ℕ → List (List StepCounts)
rows_of forecast came x steps = map (λ t. map (λ s. planned_counts forecast came x s t) (stores forecast))
    (range_with_len 1 steps)

-- the report of the first steps
abbrev pub report_of : Dumping → Dumping → Amounts → ℕ → Reported
report_of forecast came x steps =
    record {
      ids = map (λ r. r.id) forecast.rows;
      most = length forecast.windows;
      steps = rows_of forecast came x steps;
    }

-- what a step brings to a store, by its counters as the step begins and as it ends
abbrev pub counts_from : Dumping → ℕ → ℕ → StoreCounters → StoreCounters → StepCounts
counts_from q s t before after = record {
  forecast = arrivals q s t;
  arrived = after.offered - before.offered;
  lost = after.lost - before.lost;
  dumped = after.deleted - before.deleted;
  held = after.held;
}

-- the state of a store of the problem, where the stores of the problem stand at these places
abbrev pub state_by : List ℕ → List Held → ℕ → State
state_by places stores s = opening_at (states_of stores) (slice_index places s)

-- the counters of the stores at these places
abbrev pub AreCounters : List Held → List ℕ → ℕ → List StoreCounters → Type 0
AreCounters stores places n counters =
    (s : ℕ) (d : StoreCounters) → s < n → slice_index_or counters s d ≡ counters_of (state_by places stores s)

-- what a step brings to the first stores of the problem, which have these counters before it and after it
abbrev pub AreStepCounts : Dumping → ℕ → List StoreCounters → List StoreCounters → ℕ → List StepCounts → Type 0
AreStepCounts q t before after n counts = (s : ℕ) (d : StepCounts) (b a : StoreCounters) → s < n
    → slice_index_or counts s d ≡ counts_from q s t (slice_index_or before s b) (slice_index_or after s a)

-- what a step brings to each store of the problem, from these states to those
abbrev pub row_from : Dumping → ℕ → (ℕ → State) → (ℕ → State) → List StepCounts
row_from q t before after = map (λ s. counts_from q s t (counters_of (before s)) (counters_of (after s))) (stores q)

-- the rows of the first steps, each by its stores' counters before the step and after it
abbrev pub rows_by_counters : RunInput → (ℕ → List Held) → ℕ → List (List StepCounts)
rows_by_counters m held steps =
    map (λ t. row_from m.problem t (store_state m (held (t - 1))) (store_state m (held t))) (range_with_len 1 steps)

-- the orders of a step, for stores at these places: one where packets are to leave, in the problem's order
abbrev pub orders_of : Amounts → List ℕ → ℕ → ℕ → List Order
orders_of x places t n =
    map (λ s. record { place = slice_index places s; amount = x s t })
    (filter (λ s. nat_lt 0 (x s t)) (range_with_len 0 n))

-- what the stores of the problem have counted, in all
abbrev pub counted : RunInput → (State → ℕ) → List Held → ℕ
counted m counter held = sum_by (λ s. counter (store_state m held s)) (stores m.problem)

-- the totals of a report are what the stores' counters rose by since the run began
pub record AreByCounters (m : RunInput) (held : List Held) (steps : List (List StepCounts)) : Type 0 where
  pub arrived : counted m (λ u. u.offered) held ≡ counted m (λ u. u.offered) m.memory.stores + (totals_of steps).arrived
  pub lost : counted m (λ u. u.lost) held ≡ counted m (λ u. u.lost) m.memory.stores + (totals_of steps).lost
  pub dumped : counted m (λ u. u.deleted) held ≡ counted m (λ u. u.deleted) m.memory.stores + (totals_of steps).dumped
