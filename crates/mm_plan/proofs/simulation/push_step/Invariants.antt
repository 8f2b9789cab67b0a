use Rattle.std.proofs.Common.{length}
use Rattle.mm_base.specs.Grid.{grid_place}
use Rattle.mm_plan.specs.Table.{amount}
use Rattle.mm_plan.specs.Tabled.{AreTabled}
use Rattle.mm_plan.proofs.simulation.push_step.Given as goal

-- the places before this one are there
abbrev pub invariant-loop-store : goal.invariant-loop-store
invariant-loop-store l =
    AreTabled l.problem (amount l.plan) (grid_place (length l.problem.rows) l.step l.store) l.volumes.items
