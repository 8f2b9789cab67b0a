-- The node from which a store's blocks are dumped, and what a flow takes there.
use Rattle.std.proofs.Common.{◌≡◌, ℕ, ◌+◌, ◌<◌, ◌≤◌, arith}
use Rattle.std.specs.Prelude.{◌≢◌}
use Rattle.mm_problem.specs.declared.come.Arrivals.{Arrivals}
use Rattle.mm_problem.specs.declared.come.Arrivals.TheVariants.{Before, During}
use Rattle.mm_plan.specs.Volumes.{can_leave, left_by}
use Rattle.mm_planner.specs.declared.nodes.TheConstants.{SOURCE}
use Rattle.mm_planner.specs.Nodes.{number_of}
use Rattle.mm_planner.specs.Network.{dump_node}
use Rattle.mm_planner.proofs.NodeNumbers.{IsNode}

-- it is one of the network's
pub dump_is_node : (come : Arrivals) (t s : ℕ) → 1 ≤ t → s < 16 → IsNode (dump_node come t s)
dump_is_node Before t s first below = (first, below)
dump_is_node During t s first below = (first, below)

-- and not the source
pub dump_not_source : (come : Arrivals) (t s : ℕ) → 1 ≤ t → number_of (dump_node come t s) ≢ SOURCE
dump_not_source Before t s first same = omega (arith, same)
dump_not_source During t s first same = omega (arith, same)

-- how much of what is dumped leaves from a store's input, and how much from what it holds
abbrev pub from_in : Arrivals → ℕ → ℕ
from_in Before n = 0
from_in During n = n

abbrev pub from_out : Arrivals → ℕ → ℕ
from_out Before n = n
from_out During n = 0

-- what a flow does in a step of a store, of which it brings in income
pub record IsKept (come : Arrivals) (size there keep leave income : ℕ) : Type 0 where
  pub leaves : leave ≤ can_leave come size there
  pub keeps : keep ≤ left_by come size there leave
  pub all : income ≡ keep + leave

-- a plan that dumps as much can do the same
pub is_kept : (come : Arrivals) (size there hold keep leave income : ℕ) → income ≡ hold + from_in come leave
    → hold ≡ keep + from_out come leave → hold ≤ size → income ≤ there → IsKept come size there keep leave income
is_kept Before size there hold keep leave income in_is out_is most within =
    record { leaves = omega arith; keeps = omega arith; all = omega arith }
is_kept During size there hold keep leave income in_is out_is most within =
    record { leaves = omega arith; keeps = omega arith; all = omega arith }
