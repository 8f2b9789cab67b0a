use Rattle.std.proofs.Common.{subst, sym}
use Rattle.std.proofs.lemmas.Result.{err_from_is_err_and}
use Rattle.mm_mission_plan.specs.Units.{IsOutcome}
use Rattle.mm_mission_plan.proofs.Stages.{refused_steps, refused_problem}
use Rattle.mm_mission_plan.proofs.unit.outcome_of.Goals as goal

pub returns-in_err-edges : goal.returns-in_err-edges
returns-in_err-edges c =
    let p =
    err_from_is_err_and c.from_residual-in_err-edges.result c.from_residual-in_err-edges.ensures.1 in
    subst (IsOutcome c.args.rows.now c.args.unit) (sym p.1)
    (refused_steps c.args.rows.now c.args.unit c.in_ok-flown.flown c.in_ok-flown.ensures p.0
    c.in_err-edges.field-0.0 p.2 c.in_err-edges.ensures.many)

pub returns-in_err-problem : goal.returns-in_err-problem
returns-in_err-problem c =
    let p =
    err_from_is_err_and c.from_residual-in_err-problem.result c.from_residual-in_err-problem.ensures.1 in
    let refused = rw c.deref.ensures.value at c.in_err-problem.ensures.problem in
    subst (IsOutcome c.args.rows.now c.args.unit) (sym p.1)
    (refused_problem c.args.rows.now c.args.unit c.in_ok-flown.flown c.in_ok-flown.ensures p.0
    c.in_err-problem.field-0.0 p.2 c.in_ok-edges.edges.items c.in_ok-edges.ensures.edges refused)
