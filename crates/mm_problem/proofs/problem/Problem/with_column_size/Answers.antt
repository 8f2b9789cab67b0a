use Rattle.std.proofs.Common.{length}
use Rattle.mm_problem.proofs.RestLaws.{set_columns}
use Rattle.mm_problem.proofs.problem.Problem.with_column_size.Goals as goal

pub invariant_of-problem : goal.invariant_of-problem
invariant_of-problem c =
    let own = c.problem.inside in
    let old = c.problem.invariant in
    record {
      stores = old.stores;
      steps = old.steps;
      channels = old.channels;
      sizes = set_columns (length own.rows.items) own.steps.windows.items own.steps.sized.items
          own.steps.step_sizes.items
          c.place.result c.args.blocks c.requires.most old.sizes;
      by_step = old.by_step;
    }
