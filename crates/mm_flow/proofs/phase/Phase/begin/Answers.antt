use Rattle.std.proofs.Common.{◌<◌, ap, arith}
use Rattle.mm_flow.specs.declared.tables.Tables.{Tables}
use Rattle.mm_flow.specs.Graph.{Graph}
use Rattle.mm_flow.proofs.LevelPaths.{cursors_put}
use Rattle.mm_flow.proofs.phase.Phase.begin.Goals as goal

pub degree-requires : goal.degree-requires
degree-requires c =
    let p = c.loop-node.self in
    let old = c.args.self.now in
    omega (arith, c.len-node-end.ensures, old.cursors.size, old.next.ok.0, ap (λ (g : Graph). g.nodes) c.raise_sink.ensures.task.graph, ap (λ (u : Tables). u.residual.network.now.graph.nodes) c.loop-node.invariant.tables)

pub invariant_of-self-in-loop-node : goal.invariant_of-self-in-loop-node
invariant_of-self-in-loop-node c =
    let p = c.loop-node.self in
    let t = p.tables in
    let old = c.args.self.now in
    let node = c.loop-node.node in
    let known : node < t.residual.network.now.graph.nodes =
    omega (arith, c.len-node-end.ensures, old.cursors.size, old.next.ok.0, ap (λ (g : Graph). g.nodes) c.raise_sink.ensures.task.graph, ap (λ (u : Tables). u.residual.network.now.graph.nodes) c.loop-node.invariant.tables) in
    record { cursors = cursors_put t.residual.network.now.graph p.next.items node c.degree.result p.cursors known (omega (arith, c.degree.ensures)); places = p.places }
