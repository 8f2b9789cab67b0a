use Rattle.std.proofs.Common.{◌≡◌, length, true, ap, sym, ◌∙◌}
use Rattle.std.proofs.lemmas.List.{take_rest}
use Rattle.mm_base.specs.declared.limits.TheConstants.{CHANNELS}
use Rattle.mm_base.proofs.ReadingSteps.{test_ok}
use Rattle.mm_problem.specs.Rest.{starts_fit}
use Rattle.mm_problem.proofs.RestLaws.{rest_within, as_many_rows, are_stores, are_steps, are_columns}
use Rattle.mm_problem.proofs.StepTables.{are_numbers}
use Rattle.mm_problem.proofs.problem.Problem.rest.Goals as goal

pub later-arrived-requires : goal.later-arrived-requires
later-arrived-requires c =
    let own = c.self.inside in
    rw (c.as_slice-stores.ensures.value, c.deref-2.ensures.value)
    (rest_within (length own.steps.windows.items) (length own.rows.items) c.args.step own.steps.arrived.items
    c.self.invariant.steps.table (rw (← c.self.view_is) at c.requires.before_last))

pub later-step_limits-requires : goal.later-step_limits-requires
later-step_limits-requires c =
    let own = c.self.inside in
    rw (c.as_slice-own.ensures.value, c.deref-3.ensures.value)
    (rest_within (length own.steps.windows.items) (length own.steps.limited.items) c.args.step
    own.steps.step_limits.items
    c.self.invariant.by_step.table (rw (← c.self.view_is) at c.requires.before_last))

pub later-step_sizes-requires : goal.later-step_sizes-requires
later-step_sizes-requires c =
    let own = c.self.inside in
    rw (c.as_slice-sized.ensures.value, c.deref-4.ensures.value)
    (rest_within (length own.steps.windows.items) (length own.steps.sized.items) c.args.step own.steps.step_sizes.items
    c.self.invariant.sizes.table (rw (← c.self.view_is) at c.requires.before_last))

pub invariant_of-result : goal.invariant_of-result
invariant_of-result c =
    let is = c.self.invariant in
    let own = c.self.inside in
    let rows = own.rows.items in
    let steps = own.steps in
    let starts = c.args.starts.now in
    let step = c.args.step in
    let before_last = rw (← c.self.view_is) at c.requires.before_last in
    let fit : starts_fit rows starts ≡ true = ap (λ r. starts_fit r starts) (sym c.as_slice-stores.ensures.value)
    ∙ sym c.starts_fit-fit.ensures ∙ test_ok _ _ _ c.in_ok-test.ensures in
    let table = rw (
      c.later-arrived.ensures,
      c.later-step_limits.ensures,
      c.later-step_sizes.ensures,
      c.as_slice-stores.ensures.value,
      c.as_slice-own.ensures.value,
      c.as_slice-sized.ensures.value,
      c.deref.ensures.value,
      c.deref-2.ensures.value,
      c.deref-3.ensures.value,
      c.deref-4.ensures.value,
      take_rest steps.windows.items step,
    ) at c.in_ok-steps.ensures.steps in
    let by_store = are_columns (length rows) steps.windows.items steps.sized.items steps.step_sizes.items step
    is.sizes in
    rw (c.in_ok-rows.ensures.rows, c.as_slice-stores.ensures.value)
    (are_numbers _ own.limits c.in_ok-steps.steps _ own.come table
    (are_stores rows starts is.stores fit)
    (are_steps rows starts steps.windows.items steps.arrived.items step is.steps before_last)
    is.channels
    (are_columns CHANNELS steps.windows.items steps.limited.items steps.step_limits.items step is.by_step)
    (rw (as_many_rows rows starts) by_store))
