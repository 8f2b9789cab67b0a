use Rattle.std.proofs.Common.{◌≡◌, ◌++◌, take}
use Rattle.mm_mission.specs.Planned.{growths}
use Rattle.mm_mission.proofs.table.push_growths.Given as goal

abbrev pub invariant-loop-counter : goal.invariant-loop-counter
invariant-loop-counter l =
    l.cells.items ≡ l.fn.cells.items ++ growths l.mission (take l.counter-index l.counters) l.edges l.step
