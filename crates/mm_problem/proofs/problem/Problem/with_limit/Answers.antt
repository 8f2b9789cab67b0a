use Rattle.std.proofs.Common.{Some, arith}
use Rattle.std.proofs.lemmas.List.{length-set}
use Rattle.std.proofs.lemmas.List.Elements.{All-set}
use Rattle.mm_problem.specs.Dumping.{IsLimit}
use Rattle.mm_problem.proofs.problem.Problem.with_limit.Goals as goal

pub invariant_of-problem : goal.invariant_of-problem
invariant_of-problem c =
    let limits = c.problem.inside.limits in
    let old = c.problem.invariant in
    record {
      stores = old.stores;
      steps = old.steps;
      channels = record {
        all = omega (arith, length-set limits c.args.channel (Some c.args.blocks), old.channels.all);
        each = All-set IsLimit limits c.args.channel (Some c.args.blocks) c.requires.most old.channels.each;
      };
      by_step = old.by_step;
      sizes = old.sizes;
    }
