use Rattle.std.proofs.Common.{◌∙◌, arith}
use Rattle.mm_plan.specs.Table.{amount}
use Rattle.mm_keep.proofs.Joins.{joined_more, joined_step}
use Rattle.mm_keep.proofs.joining.join_step.Goals as goal

pub loop-store-preserved : goal.loop-store-preserved
loop-store-preserved c =
    let before = c.loop-store.invariant in
    let change = c.set.ensures.changed in
    record {
      shape = record { stores = change.stores ∙ before.shape.stores; steps = change.steps ∙ before.shape.steps };
      so_far = joined_more c.args.problem.now c.args.last c.args.plan.now c.args.rest.now c.loop-store.joined
          c.set.new.self c.args.step c.loop-store.store c.amount_in-blocks.result before.shape c.requires.first
          c.requires.within (omega arith) before.so_far change c.amount_in-blocks.ensures.amount;
    }

pub returns-clause-after : goal.returns-clause-after
returns-clause-after c =
    joined_step c.args.problem.now c.args.last c.args.plan.now c.args.rest.now (amount c.loop-store.joined)
    c.args.step c.loop-store.store (omega arith) c.loop-store.invariant.so_far
