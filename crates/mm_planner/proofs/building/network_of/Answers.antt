use Rattle.std.proofs.Common.{ℕ, ap, ◌∙◌}
use Rattle.mm_planner.specs.Network.{first_inflow, net_by}
use Rattle.mm_planner.proofs.ArcLists.{net_all}
use Rattle.mm_planner.proofs.building.network_of.Goals as goal

pub returns-clause-built : goal.returns-clause-built
returns-clause-built c =
    let q = c.args.problem.now in
    c.in_ok-network.ensures.built ∙ ap (λ (k : ℕ). net_by q (first_inflow k q)) c.stores.ensures.stores ∙ net_all q
