use Rattle.std.proofs.Common.{length}
use Rattle.mm_base.specs.Grid.{grid_place}
use Rattle.mm_plan.specs.Table.{amount}
use Rattle.mm_plan.specs.Tabled.{AreTabled}
use Rattle.mm_plan.proofs.simulation.simulate.Given as goal

-- the steps before this one are there
abbrev pub invariant-loop-step : goal.invariant-loop-step
invariant-loop-step l =
    AreTabled l.problem (amount l.plan) (grid_place (length l.problem.rows) l.step 0) l.volumes.items
