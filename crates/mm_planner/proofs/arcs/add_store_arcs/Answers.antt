use Rattle.std.proofs.Common.{length, rules, arith}
use Rattle.mm_planner.specs.Network.{first_inflow, store_arc}
use Rattle.mm_planner.proofs.ArcLists.{arcs_push, room_added, keeps_room}
use Rattle.mm_planner.proofs.arcs.add_store_arcs.Goals as goal

pub add_link-requires-clause-room : goal.add_link-requires-clause-room
add_link-requires-clause-room c =
    room_added c.args.problem.now c.loop-store.network.graph c.args.network.now.graph (store_arc c.args.problem.now (first_inflow c.args.first c.args.problem.now) c.args.way c.args.step) c.loop-store.store 1 _ c.loop-store.invariant c.requires.room (omega arith)

pub loop-store-preserved : goal.loop-store-preserved
loop-store-preserved c =
    arcs_push c.loop-store.network c.add_link.new.network c.args.network.now.graph (store_arc c.args.problem.now (first_inflow c.args.first c.args.problem.now) c.args.way c.args.step) c.loop-store.store _ c.loop-store.invariant c.in_ok-add_link.ensures.added c.store_link-link.ensures.arc

pub returns-clause-room : goal.returns-clause-room
returns-clause-room c =
    keeps_room c.loop-store.network.graph c.args.network.now.graph (store_arc c.args.problem.now (first_inflow c.args.first c.args.problem.now) c.args.way c.args.step) (length c.args.problem.now.rows) _ (search rules) (omega (arith, c.stores-store-end.ensures.is_dumping.stores.at_most))
