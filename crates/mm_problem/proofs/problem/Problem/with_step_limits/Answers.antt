use Rattle.mm_base.specs.declared.limits.TheConstants.{CHANNELS}
use Rattle.mm_problem.specs.declared.fault.Name.TheVariants as name
use Rattle.mm_problem.proofs.DataLaws.{columns_said}
use Rattle.mm_problem.proofs.StepTables.{are_numbers}
use Rattle.mm_problem.proofs.problem.Problem.with_step_limits.Goals as goal

pub invariant_of-result : goal.invariant_of-result
invariant_of-result c =
    let is = c.self.invariant in
    let own = c.self.inside in
    let channels = c.args.channels.now in
    let limits = c.args.limits.now in
    let table = rw (
      c.as_slice-windows.ensures.value,
      c.as_slice-arrived.ensures.value,
      c.as_slice-sized.ensures.value,
      c.as_slice-step_sizes.ensures.value,
    ) at c.in_ok-steps.ensures.steps in
    let fit = rw c.as_slice-windows.ensures.value at c.in_ok-test_columns.ensures in
    rw (c.in_ok-rows.ensures.items, c.as_slice.ensures.value)
    (are_numbers own.rows.items own.limits c.in_ok-steps.steps _ own.come table
    is.stores is.steps is.channels
    (columns_said CHANNELS name.Limit own.steps.windows.items channels limits c.in_ok-test_columns.field-0 fit)
    is.sizes)
