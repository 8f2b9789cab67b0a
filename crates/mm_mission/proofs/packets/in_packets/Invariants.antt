use Rattle.std.proofs.Common.{◌≡◌}
use Rattle.std.specs.List.{flat_map, range_with_len}
use Rattle.mm_mission.specs.Packets.{steps_in}
use Rattle.mm_mission.specs.Timeline.{amount}
use Rattle.mm_mission.proofs.packets.in_packets.Given as goal

abbrev pub invariant-loop-store : goal.invariant-loop-store
invariant-loop-store l =
    l.steps.items ≡ flat_map (steps_in l.mission l.edges (amount l.mission l.amounts)) (range_with_len 0 l.store)
