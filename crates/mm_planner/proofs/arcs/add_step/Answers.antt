use Rattle.std.proofs.Common.{◌++◌, ◌∷◌, [], map}
use Rattle.mm_problem.specs.Dumping.{stores, channels}
use Rattle.mm_planner.specs.declared.way.Way.TheVariants.{Come, Hold, Keep, Take}
use Rattle.mm_planner.specs.Network.{first_inflow, store_arc, limit_arc, window_arc}
use Rattle.mm_planner.proofs.ArcLists.{with_arcs-append}
use Rattle.mm_planner.proofs.arcs.add_step.Goals as goal

pub returns : goal.returns
returns c =
    let q = c.args.problem.now in
    let come = first_inflow c.args.first q in
    let t = c.args.step in
    let g = c.args.network.now.graph in
    let a = map (store_arc q come Come t) (stores q) in
    let b = map (store_arc q come Hold t) (stores q) in
    let d = map (store_arc q come Keep t) (stores q) in
    let e = map (store_arc q come Take t) (stores q) in
    let f = map (limit_arc q t) (channels q) in
    let two = with_arcs-append c.add_store_arcs.new.network.graph c.add_store_arcs-2.new.network.graph g a b c.in_ok-add_store_arcs.ensures.added c.in_ok-add_store_arcs-2.ensures.added in
    let three = with_arcs-append c.add_store_arcs-2.new.network.graph c.add_store_arcs-3.new.network.graph g (a ++ b) d two c.in_ok-add_store_arcs-3.ensures.added in
    let four = with_arcs-append c.add_store_arcs-3.new.network.graph c.add_store_arcs-4.new.network.graph g (a ++ b ++ d) e three c.in_ok-add_store_arcs-4.ensures.added in
    let five = with_arcs-append c.add_store_arcs-4.new.network.graph c.add_limit_arcs.new.network.graph g (a ++ b ++ d ++ e) f four c.in_ok-add_limit_arcs.ensures.added in
    record {
      added = with_arcs-append c.add_limit_arcs.new.network.graph c.add_window_arc.new.network.graph g (a ++ b ++ d ++ e ++ f) (window_arc q t ∷ []) five c.in_ok-add_window_arc.ensures.added;
    }
