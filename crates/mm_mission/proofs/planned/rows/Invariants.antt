use Rattle.std.proofs.Common.{◌≡◌, take}
use Rattle.std.specs.Prelude.{map}
use Rattle.mm_mission.specs.Planned.{row_of}
use Rattle.mm_mission.proofs.planned.rows.Given as goal

abbrev pub invariant-loop-store : goal.invariant-loop-store
invariant-loop-store l = l.rows.items ≡ map row_of (take l.store-index l.mission.stores)
