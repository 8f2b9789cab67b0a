use Rattle.std.proofs.Common.{◌-◌}
use Rattle.mm_mission_plan.specs.Units.{IsFound}
use Rattle.mm_mission_plan.proofs.unit.halved.Given as goal

abbrev pub invariant-units : goal.invariant-units
invariant-units l = IsFound l.rows l.found

abbrev pub decreases-units : goal.decreases-units
decreases-units l = l.found.high - l.found.low
