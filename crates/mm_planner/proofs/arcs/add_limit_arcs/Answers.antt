use Rattle.std.proofs.Common.{length, rules, arith}
use Rattle.mm_planner.specs.Network.{limit_arc}
use Rattle.mm_planner.proofs.ArcLists.{arcs_push, room_added, keeps_room}
use Rattle.mm_planner.proofs.arcs.add_limit_arcs.Goals as goal

pub add_link-requires-clause-room : goal.add_link-requires-clause-room
add_link-requires-clause-room c =
    room_added c.args.problem.now c.loop-channel.network.graph c.args.network.now.graph (limit_arc c.args.problem.now c.args.step) c.loop-channel.channel 1 _ c.loop-channel.invariant c.requires.room (omega arith)

pub loop-channel-preserved : goal.loop-channel-preserved
loop-channel-preserved c =
    arcs_push c.loop-channel.network c.add_link.new.network c.args.network.now.graph (limit_arc c.args.problem.now c.args.step) c.loop-channel.channel _ c.loop-channel.invariant c.in_ok-add_link.ensures.added c.limit_link-link.ensures.arc

pub returns-clause-room : goal.returns-clause-room
returns-clause-room c =
    keeps_room c.loop-channel.network.graph c.args.network.now.graph (limit_arc c.args.problem.now c.args.step) (length c.args.problem.now.limits) _ (search rules) (omega (arith, c.channels-channel-end.ensures.is_dumping.channels.all))
