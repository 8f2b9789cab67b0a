use Rattle.std.proofs.Common.{◌≡◌}
use Rattle.mm_planner.specs.Growing.{nodes_alone}
use Rattle.mm_planner.proofs.building.add_nodes.Given as goal

abbrev pub invariant-loop : goal.invariant-loop
invariant-loop l = l.network.graph ≡ nodes_alone l.counter
