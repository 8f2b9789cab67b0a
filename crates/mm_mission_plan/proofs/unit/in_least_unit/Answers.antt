use Rattle.std.proofs.Common.{subst, inr}
use Rattle.mm_mission_plan.specs.Units.{IsOutcome}
use Rattle.mm_mission_plan.proofs.Searched.{least_is, least_fault}
use Rattle.mm_mission_plan.proofs.unit.in_least_unit.Goals as goal

pub returns-in-Ok-clause-unit : goal.returns-in-Ok-clause-unit
returns-in-Ok-clause-unit c =
    let found = c.halved-high.ensures.found in
    record {
      is_unit = inr (c.requires, least_is c.args.rows.now c.halved-high.result found c.halved-high.ensures.next);
      plannable = subst (IsOutcome c.args.rows.now c.halved-high.result.high) c.in-Ok.is found.tried.outcome;
    }

pub returns-in-Err-clause-refused : goal.returns-in-Err-clause-refused
returns-in-Err-clause-refused c = λ other.
    let found = c.halved-high in (
      c.requires,
      least_fault c.args.rows.now found.result found.ensures.found found.ensures.next c.in-Err.fault c.in-Err.is other,
    )
