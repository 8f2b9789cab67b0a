use Rattle.std.proofs.Common.{◌≡◌, map}
use Rattle.std.specs.List.{range_with_len}
use Rattle.mm_planner.specs.Network.{limit_arc}
use Rattle.mm_planner.specs.Growing.{with_arcs}
use Rattle.mm_planner.proofs.arcs.add_limit_arcs.Given as goal

abbrev pub invariant-loop-channel : goal.invariant-loop-channel
invariant-loop-channel l = l.network.graph ≡ with_arcs l.fn.network.graph (map (limit_arc l.problem l.step) (range_with_len 0 l.channel))
