use Rattle.mm_problem.specs.Records.{records_of}
use Rattle.mm_problem.specs.StepLists.{steps_of}
use Rattle.mm_problem.proofs.ForecastLaws.{forecast_fits, channels_fit}
use Rattle.mm_problem.proofs.problem.Problem.read.Goals as goal

pub invariant_of-result : goal.invariant_of-result
invariant_of-result c =
    let setup = c.stores-stores.ensures.is_setup in
    let fit = forecast_fits c.stores-stores.result.now (records_of c.args.text.now) (steps_of c.in_ok-steps.steps)
    c.in_ok-steps.ensures in
    record {
      stores = rw (c.in_ok-rows.ensures.items, c.stores-stores.ensures.rows) setup.stores;
      steps = rw c.in_ok-rows.ensures.items fit.0;
      channels = rw (c.limits_of-limits.ensures, c.limits.ensures.rows) (channels_fit c.args.setup.now.limits
          setup.limits.each);
      by_step = fit.1;
      sizes = rw c.in_ok-rows.ensures.items fit.2;
    }
