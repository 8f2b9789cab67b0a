use Rattle.std.proofs.Common.{sym, ap, subst, ◌∙◌, arith}
use Rattle.std.proofs.lemmas.Result.{err_from_is_err_and}
use Rattle.mm_base.specs.Reading.{Gives, test}
use Rattle.mm_problem.specs.declared.fault.Fault.TheVariants.{NoMemory, ForecastText}
use Rattle.mm_problem.proofs.DataLaws.{no_step_left, step_short, step_passed, step_fault}
use Rattle.mm_problem.proofs.data.test_steps.Goals as goal

pub returns-in_err-test : goal.returns-in_err-test
returns-in_err-test c =
    let p = err_from_is_err_and c.from_residual.result c.from_residual.ensures.1 in
    rw (p.1, p.2) (λ other. sym c.loop-earlier.invariant
    ∙ step_short c.args.stores c.loop-earlier.earlier c.args.windows.now c.loop-earlier.left.now (omega arith) c.in_err-test.field-0.0 (c.in_err-test.ensures other))

pub returns-in_err-test_step : goal.returns-in_err-test_step
returns-in_err-test_step c =
    let p = err_from_is_err_and c.from_residual-in_err-test_step.result c.from_residual-in_err-test_step.ensures.1 in
    rw (p.1, p.2) (λ other. sym c.loop-earlier.invariant
    ∙ step_fault c.args.stores c.loop-earlier.earlier c.args.windows.now c.loop-earlier.left.now (omega arith) c.in_ok-test.ensures c.in_err-test_step.field-0.0 (rw c.split_at.ensures.front at (c.in_err-test_step.ensures other)))

pub loop-earlier-preserved : goal.loop-earlier-preserved
loop-earlier-preserved c =
    rw c.split_at.ensures.back (sym (step_passed c.args.stores c.loop-earlier.earlier c.args.windows.now c.loop-earlier.left.now (omega arith) c.in_ok-test.ensures (rw c.split_at.ensures.front at c.in_ok-test_step.ensures))
    ∙ c.loop-earlier.invariant)

pub returns : goal.returns
returns c =
    let all = sym c.loop-earlier.invariant ∙ no_step_left c.args.stores c.loop-earlier.earlier c.args.windows.now c.loop-earlier.left.now c.loop-earlier-test.false in
    subst (Gives NoMemory (λ x. x) c.test-2.result) (sym (all ∙ ap (λ b. test b ForecastText) (sym c.is_empty.ensures))) c.test-2.ensures
