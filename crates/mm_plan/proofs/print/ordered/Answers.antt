use Rattle.std.proofs.Common.{rules}
use Rattle.mm_plan.specs.Printing.{stretch_key}
use Rattle.mm_plan.proofs.Prints.{answers_alike}
use Rattle.mm_plan.proofs.print.ordered.Goals as goal

pub returns : goal.returns
returns c = record {
  same = rw (← c.in_ok-stretches.ensures.items) c.sort_unstable_by_key.ensures.permutation;
  order = c.sort_unstable_by_key.ensures.sorted (stretch_key c.args.ids.now) (answers_alike _ _ _ (λ a r h called. search rules));
}
