use Rattle.std.proofs.Common.{length}
use Rattle.mm_problem.specs.declared.fault.Name.TheVariants as name
use Rattle.mm_problem.proofs.DataLaws.{columns_said}
use Rattle.mm_problem.proofs.StepTables.{are_numbers}
use Rattle.mm_problem.proofs.problem.Problem.with_step_sizes.Goals as goal

pub invariant_of-result : goal.invariant_of-result
invariant_of-result c =
    let is = c.self.invariant in
    let own = c.self.inside in
    let windows = own.steps.windows.items in
    let stores = c.args.stores.now in
    let sizes = c.args.sizes.now in
    let table = rw (
      c.as_slice-windows.ensures.value,
      c.as_slice-arrived.ensures.value,
      c.as_slice-limited.ensures.value,
      c.as_slice-step_limits.ensures.value,
    ) at c.in_ok-steps.ensures.steps in
    let fit = rw (c.as_slice-own.ensures.value, c.as_slice-windows.ensures.value) at c.in_ok-test_columns.ensures in
    rw (c.in_ok-rows.ensures.items, c.as_slice-own.ensures.value)
    (are_numbers own.rows.items own.limits c.in_ok-steps.steps _ own.come table
    is.stores is.steps is.channels is.by_step
    (columns_said (length own.rows.items) name.Size windows stores sizes c.in_ok-test_columns.field-0 fit))
