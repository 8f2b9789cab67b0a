-- The dumping problem of a mission.
use Rattle.std.specs.Prelude.{◌≡◌, ℕ, ◌-◌, ◌/◌, min, Bool, nat_le, List, [], ◌∷◌, length, map, filter}
use Rattle.std.specs.Prelude.{slice_index, Some, None, is_some, Result, Ok, Err}
use Rattle.std.specs.Int.{div_ceil}
use Rattle.std.specs.List.{flat_map, list_any, list_all, range_with_len}
use Rattle.mm_base.specs.declared.limits.TheConstants.{MAX_BLOCKS, CHANNELS}
use Rattle.mm_base.specs.declared.rows.StoreRow.{StoreRow}
use Rattle.mm_base.specs.Reading.{◌>>=◌, test}
use Rattle.mm_problem.specs.declared.come.Arrivals.TheVariants.{During}
use Rattle.mm_problem.specs.declared.fault.Fault as problem
use Rattle.mm_problem.specs.declared.fault.Fault.TheVariants as because
use Rattle.mm_problem.specs.declared.fault.Name.{Name}
use Rattle.mm_problem.specs.declared.fault.Name.TheVariants.{Window, Arrivals, Limit}
use Rattle.mm_problem.specs.Changed.{with_arrivals}
use Rattle.mm_problem.specs.Data.{problem_from, limited_by}
use Rattle.mm_problem.specs.Dumping.{Dumping}
use Rattle.mm_problem.specs.Forecast.{limits_of}
use Rattle.mm_mission.specs.declared.counter.Counter.{Counter}
use Rattle.mm_mission.specs.declared.counter.Counter.TheVariants.{Sent, Come}
use Rattle.mm_mission.specs.declared.fault.Fault.{Fault}
use Rattle.mm_mission.specs.declared.fault.Fault.TheVariants.{Problem}
use Rattle.mm_mission.specs.declared.parts.Pass.{Pass}
use Rattle.mm_mission.specs.declared.parts.Store.{Store}
use Rattle.mm_mission.specs.Fault.{fault_of}
use Rattle.mm_mission.specs.Mission.{MissionRows}
use Rattle.mm_mission.specs.Flows.{own_rate, counted}

-- ---- stores

-- sizes fall to whole units
abbrev pub size_in : Store → ℕ
size_in s = s.size / s.unit

-- starts rise to whole units, at most as many as the size
abbrev pub start_in : Store → ℕ
start_in s = min (div_ceil s.start s.unit) (size_in s)

-- a store as the problem has it
abbrev pub row_of : Store → StoreRow
row_of s = record { id = s.id; size = size_in s; start = start_in s; kind = s.kind; channel = s.channel }

-- ---- steps

-- what a count grows by in a step; steps count from 1
abbrev pub growth : (ℕ → ℕ) → List ℕ → ℕ → ℕ
growth count edges t = count (slice_index edges t) - count (slice_index edges (t - 1))

-- what each counter grows by in a step
abbrev pub growths : MissionRows → List Counter → List ℕ → ℕ → List ℕ
growths m counters edges t = map (λ c. growth (counted m c) edges t) counters

-- the same of all steps, one after the other
abbrev pub table : MissionRows → List Counter → List ℕ → List ℕ
table m counters edges = flat_map (growths m counters edges) (range_with_len 1 (length edges - 1))

-- whether a channel has its own rate in some pass
abbrev pub is_limited : List Pass → ℕ → Bool
is_limited passes c = list_any (λ p. is_some (own_rate (Some c) p)) passes

-- the channels that have
abbrev pub limited : MissionRows → List ℕ
limited m = filter (is_limited m.passes) (range_with_len 0 CHANNELS)

abbrev pub windows : MissionRows → List ℕ → List ℕ
windows m edges = table m (Sent None ∷ []) edges

abbrev pub arrived : MissionRows → List ℕ → List ℕ
arrived m edges = table m (map Come (range_with_len 0 (length m.stores))) edges

abbrev pub step_limits : MissionRows → List ℕ → List ℕ
step_limits m edges = table m (map (λ c. Sent (Some c)) (limited m)) edges

-- ---- the problem

-- the problem has the mission's stores, and in each step what passes can send and what comes, during dumps
pub record IsProblemOf (m : MissionRows) (edges : List ℕ) (q : Dumping) : Type 0 where
  pub rows : q.rows ≡ map row_of m.stores
  pub windows : q.windows ≡ windows m edges
  pub arrived : q.arrived ≡ arrived m edges
  pub limited : q.limited ≡ limited m
  pub step_limits : q.step_limits ≡ step_limits m edges
  pub no_limits : q.limits ≡ limits_of []
  pub one_size : q.sized ≡ []
  pub during : q.come ≡ During

-- a number, if it is within the range of amounts
abbrev pub unit_cell : Name → ℕ → Result ℕ Fault
unit_cell name cell = do
  within ← test (nat_le cell MAX_BLOCKS) (Problem (because.Limit name))
  Ok cell

-- the numbers, if each is within that range
abbrev pub in_range : Name → List ℕ → Result (List ℕ) Fault
in_range name cells = do
  within ← test (list_all (λ n. nat_le n MAX_BLOCKS) cells) (Problem (because.Limit name))
  Ok cells

-- a fault of the problem as one of the mission
abbrev pub of_problem : {A : Type 0} → Result A problem.Fault → Result A Fault
of_problem (Ok x) = Ok x
of_problem (Err fault) = Err (fault_of fault)

-- the mission's problem with these edges, or its first fault: a number of a step that is out of range, and then what a
-- problem is refused for
unfoldable pub problem_of : MissionRows → List ℕ → Result Dumping Fault
problem_of m edges = do
  windows ← in_range Window (windows m edges)
  arrived ← in_range Arrivals (arrived m edges)
  limits ← in_range Limit (step_limits m edges)
  q ← of_problem (problem_from (map row_of m.stores) [] windows arrived)
  of_problem (limited_by (with_arrivals q During) (limited m) limits)
