use Rattle.std.proofs.Common.{◌*◌, refl, arith}
use Rattle.mm_mission_plan.proofs.Searched.{next_tried}
use Rattle.mm_mission_plan.proofs.unit.double.Goals as goal

pub returns-clause-tried : goal.returns-clause-tried
returns-clause-tried c =
    next_tried c.args.rows.now c.args.found (record {
      low = c.args.found.high;
      high = 2 * c.args.found.high;
      outcome = c.outcome_of.result;
    }) c.requires.tried c.requires.small refl (omega (arith, c.requires.tried.below)) (omega (arith, c.requires.below))
    c.outcome_of.ensures
