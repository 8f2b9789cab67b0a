use Rattle.std.proofs.Common.{take}
use Rattle.mm_mission_plan.specs.Names.{AreNames}
use Rattle.mm_mission_plan.proofs.names.pass_names.Given as goal

abbrev pub invariant-rows : goal.invariant-rows
invariant-rows l = AreNames l.passes (take l.place l.rows) l.found.items
