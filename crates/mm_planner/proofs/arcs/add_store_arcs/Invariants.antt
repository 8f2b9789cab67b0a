use Rattle.std.proofs.Common.{◌≡◌, map}
use Rattle.std.specs.List.{range_with_len}
use Rattle.mm_planner.specs.Network.{first_inflow, store_arc}
use Rattle.mm_planner.specs.Growing.{with_arcs}
use Rattle.mm_planner.proofs.arcs.add_store_arcs.Given as goal

abbrev pub invariant-loop-store : goal.invariant-loop-store
invariant-loop-store l = l.network.graph ≡ with_arcs l.fn.network.graph (map (store_arc l.problem (first_inflow l.first l.problem) l.way l.step) (range_with_len 0 l.store))
