use Rattle.std.proofs.Common.{◌∙◌, ◌-◌, ap, sym, arith}
use Rattle.mm_flow.specs.Graph.{Graph}
use Rattle.mm_planner.specs.Network.{first_inflow, net, step_arcs, arcs_of}
use Rattle.mm_planner.specs.Growing.{with_arcs, nodes_alone}
use Rattle.mm_planner.proofs.ArcLists.{with_arcs-append, length_with_arcs, length-arcs_of, arcs_of_more, few_arcs}
use Rattle.mm_planner.proofs.building.add_arcs.Goals as goal

pub add_step-requires-clause-room : goal.add_step-requires-clause-room
add_step-requires-clause-room c =
    let q = c.args.problem.now in
    let come = first_inflow c.args.first q in
    let t = c.loop-step.step in
    record {
      nodes = ap (λ (g : Graph). g.nodes) c.loop-step.invariant;
      few_nodes = omega (arith, ap (λ (g : Graph). g.nodes) c.loop-step.invariant, c.steps-step-end.ensures.is_dumping.steps.at_most);
      arcs = omega (arith, length_with_arcs c.loop-step.network.graph (nodes_alone (net q).nodes) (arcs_of q come (t - 1)) c.loop-step.invariant, length-arcs_of q come (t - 1), few_arcs q t c.steps-step-end.ensures.is_dumping (omega arith));
    }

pub loop-step-preserved : goal.loop-step-preserved
loop-step-preserved c =
    let q = c.args.problem.now in
    let come = first_inflow c.args.first q in
    let t = c.loop-step.step in
    with_arcs-append c.loop-step.network.graph c.add_step.new.network.graph (nodes_alone (net q).nodes) (arcs_of q come (t - 1)) (step_arcs q come t) c.loop-step.invariant c.in_ok-add_step.ensures.added
    ∙ ap (with_arcs (nodes_alone (net q).nodes)) (sym (arcs_of_more q come t (omega arith)))
