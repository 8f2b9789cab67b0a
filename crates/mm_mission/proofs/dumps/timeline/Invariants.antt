use Rattle.mm_mission.specs.Packets.{sent_in}
use Rattle.mm_mission.specs.Timeline.{AreSent}
use Rattle.mm_mission.proofs.dumps.timeline.Given as goal

abbrev pub invariant-loop-store : goal.invariant-loop-store
invariant-loop-store l = AreSent l.mission l.edges (sent_in l.edges l.steps) l.store 0 l.dumps.items
