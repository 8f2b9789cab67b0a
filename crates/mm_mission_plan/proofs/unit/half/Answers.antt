use Rattle.std.proofs.Common.{◌∙◌, ◌+◌, ◌-◌, ◌/◌, refl, sym, arith}
use Rattle.mm_mission_plan.proofs.Searched.{higher_half, lower_half}
use Rattle.mm_mission_plan.specs.declared.unit.Found.{Found}
use Rattle.mm_mission_plan.proofs.unit.half.Goals as goal

pub returns-then-is_too_small-clause-found : goal.returns-then-is_too_small-clause-found
returns-then-is_too_small-clause-found c =
    let found = c.args.found in
    let next : Found = record {
      low = found.low;
      high = found.low + (found.high - found.low) / 2;
      outcome = c.outcome_of.result;
    } in
    higher_half c.args.rows.now found next c.requires.found (omega (arith, c.requires.apart)) c.outcome_of.ensures
    (sym c.is_too_small.ensures ∙ c.if-is_too_small.true)

pub returns-else-is_too_small-clause-found : goal.returns-else-is_too_small-clause-found
returns-else-is_too_small-clause-found c =
    let found = c.args.found in
    let next : Found = record {
      low = found.low;
      high = found.low + (found.high - found.low) / 2;
      outcome = c.outcome_of.result;
    } in
    lower_half c.args.rows.now found next c.requires.found refl (omega (arith, c.requires.apart))
    (omega (arith, c.requires.apart)) c.outcome_of.ensures (sym c.is_too_small.ensures ∙ c.if-is_too_small.false)
