use Rattle.mm_rest.proofs.RestReads.{texts_said}
use Rattle.mm_rest.proofs.rest.texts_of.Goals as goal

pub returns-clause-problem : goal.returns-clause-problem
returns-clause-problem c =
    let said = rw (
      c.requires.stores,
      c.routes.ensures.rows,
      c.limits.ensures.rows,
      c.come.ensures.come,
    ) at c.in_ok-setup.ensures in
    texts_said c.args.setup.now c.args.problem.now c.in_ok-setup.setup.items c.in_ok-forecast.forecast.items
    c.forecasts.ensures c.requires.limits c.requires.setup c.steps-steps.ensures.is_dumping said
    c.in_ok-forecast.ensures
