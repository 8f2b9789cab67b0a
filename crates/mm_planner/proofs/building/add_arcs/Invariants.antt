use Rattle.std.proofs.Common.{◌≡◌, ◌-◌}
use Rattle.mm_planner.specs.Network.{first_inflow, net, arcs_of}
use Rattle.mm_planner.specs.Growing.{with_arcs, nodes_alone}
use Rattle.mm_planner.proofs.building.add_arcs.Given as goal

abbrev pub invariant-loop-step : goal.invariant-loop-step
invariant-loop-step l = l.network.graph ≡ with_arcs (nodes_alone (net l.problem).nodes) (arcs_of l.problem (first_inflow l.first l.problem) (l.step - 1))
