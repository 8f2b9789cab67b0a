use Rattle.std.proofs.Common.{◌-◌, ◌*◌}
use Rattle.mm_mission.specs.declared.limits.TheConstants.{MAX_UNIT}
use Rattle.mm_mission_plan.specs.Units.{IsTried}
use Rattle.mm_mission_plan.proofs.unit.doubled.Given as goal

abbrev pub invariant-units : goal.invariant-units
invariant-units l = IsTried l.rows l.found

abbrev pub decreases-units : goal.decreases-units
decreases-units l = 2 * MAX_UNIT - l.found.high
