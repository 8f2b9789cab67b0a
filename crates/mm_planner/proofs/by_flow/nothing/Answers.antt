use Rattle.std.proofs.Common.{◌≡◌, ℕ, ◌*◌, List, length, slice_index, replicate, sym, ap, ◌∙◌, rules}
use Rattle.std.proofs.lemmas.List.{length-replicate}
use Rattle.mm_flow.proofs.Ends.{nothing_augmented}
use Rattle.mm_flow.proofs.Marking.{slice_index-nothing}
use Rattle.mm_planner.specs.declared.nodes.TheConstants.{SOURCE, SINK}
use Rattle.mm_planner.specs.Network.{first_inflow, net_by}
use Rattle.mm_planner.specs.Taken.{step_width}
use Rattle.mm_planner.proofs.ArcLists.{length-arcs_of}
use Rattle.mm_planner.proofs.by_flow.nothing.Goals as goal

pub returns : goal.returns
returns c =
    let q = c.args.problem.now in
    let a = first_inflow 0 q in
    let items : c.in_ok-flow.flow.items ≡ replicate (length q.windows * step_width q) 0 = search rules in
    record {
      begun = record {
        arcs = ap length items ∙ length-replicate (length q.windows * step_width q) 0
            ∙ sym (length-arcs_of q a (length q.windows));
        augmented = nothing_augmented (net_by q a) SOURCE SINK (slice_index c.in_ok-flow.flow.items)
            (λ k. ap (λ (xs : List ℕ). slice_index xs k) items
            ∙ slice_index-nothing (length q.windows * step_width q) k);
      };
    }
