use Rattle.std.proofs.Common.{◌-◌}
use Rattle.mm_exhaustive.proofs.cuts.+below_from.Given as goal

abbrev pub decreases-below_from : goal.decreases-below_from
decreases-below_from l = l.network.now.graph.nodes - l.node
