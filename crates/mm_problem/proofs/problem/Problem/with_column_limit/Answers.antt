use Rattle.mm_base.specs.declared.limits.TheConstants.{CHANNELS}
use Rattle.mm_problem.proofs.RestLaws.{set_columns}
use Rattle.mm_problem.proofs.problem.Problem.with_column_limit.Goals as goal

pub invariant_of-problem : goal.invariant_of-problem
invariant_of-problem c =
    let own = c.problem.inside in
    let old = c.problem.invariant in
    record {
      stores = old.stores;
      steps = old.steps;
      channels = old.channels;
      by_step = set_columns CHANNELS own.steps.windows.items own.steps.limited.items own.steps.step_limits.items
          c.place.result c.args.blocks c.requires.most old.by_step;
      sizes = old.sizes;
    }
