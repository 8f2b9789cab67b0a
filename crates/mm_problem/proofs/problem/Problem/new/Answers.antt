use Rattle.std.proofs.Common.{[], length}
use Rattle.mm_base.specs.declared.limits.TheConstants.{CHANNELS}
use Rattle.mm_problem.specs.declared.come.Arrivals.TheVariants.{Before}
use Rattle.mm_problem.specs.Forecast.{limits_of}
use Rattle.mm_problem.proofs.DataLaws.{stores_said, limits_said, steps_said, no_columns}
use Rattle.mm_problem.proofs.ForecastLaws.{channels_fit}
use Rattle.mm_problem.proofs.StepTables.{are_numbers}
use Rattle.mm_problem.proofs.problem.Problem.new.Goals as goal

pub invariant_of-result : goal.invariant_of-result
invariant_of-result c =
    let rows = c.args.rows.now in
    let limits = c.args.limits.now in
    let windows = c.args.windows.now in
    let arrived = c.args.arrivals.now in
    rw (c.in_ok-rows.ensures.items, c.limits_of-limits.ensures) (are_numbers
    rows (limits_of limits) c.in_ok-steps.steps
    (record { limited = []; windows = windows; arrived = arrived; step_limits = []; sized = []; step_sizes = [] })
    Before c.in_ok-steps.ensures.steps
    (stores_said rows c.in_ok-test_store_count.field-0 c.in_ok-test_rows.field-0 c.in_ok-test_store_count.ensures
    c.in_ok-test_rows.ensures)
    (steps_said rows windows arrived c.in_ok-test_steps.field-0 c.in_ok-test_some_step.field-0
    c.in_ok-test_steps.ensures c.in_ok-test_some_step.ensures)
    (channels_fit limits (limits_said limits c.in_ok-test_rows-2.field-0 c.in_ok-test_rows-2.ensures))
    (no_columns CHANNELS windows) (no_columns (length rows) windows))
