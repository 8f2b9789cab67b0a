use Rattle.std.proofs.Common.{subst, sym}
use Rattle.mm_flow.specs.Graph.{Graph}
use Rattle.mm_flow.specs.Balance.{IsBegun}
use Rattle.mm_flow.specs.Solution.{HasUnlimitedPath}
use Rattle.mm_planner.specs.declared.nodes.TheConstants.{SOURCE, SINK}
use Rattle.mm_planner.specs.Network.{first_inflow}
use Rattle.mm_planner.proofs.NoPath.{no_unlimited_path}
use Rattle.mm_planner.proofs.Opening.{begun_on}
use Rattle.mm_planner.proofs.by_flow.next_solved.Goals as goal

pub solve_from-requires-clause-begun : goal.solve_from-requires-clause-begun
solve_from-requires-clause-begun c =
    subst (λ (g : Graph). IsBegun g SOURCE SINK c.args.begun) (sym c.in_ok-network.ensures.built)
    (begun_on c.args.first c.args.problem.now c.args.begun c.requires.begun)

pub unreachable-requires : goal.unreachable-requires
unreachable-requires c =
    let q = c.args.problem.now in
    no_unlimited_path q (first_inflow c.args.first q)
    (subst (λ (g : Graph). HasUnlimitedPath g SOURCE SINK) c.in_ok-network.ensures.built
    (c.solve_from.ensures.refused.unbounded (cc)).1)
