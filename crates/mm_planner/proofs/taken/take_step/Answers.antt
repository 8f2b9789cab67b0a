use Rattle.std.proofs.Common.{◌∙◌, slice_index, arith}
use Rattle.mm_plan.specs.Table.{amount}
use Rattle.mm_planner.proofs.TakenAmounts.{taken_more, taken_step}
use Rattle.mm_planner.proofs.taken.take_step.Goals as goal

pub loop-store-preserved : goal.loop-store-preserved
loop-store-preserved c =
    let before = c.loop-store.invariant in
    let change = c.set.ensures.changed in
    record {
      shape = record { stores = change.stores ∙ before.shape.stores; steps = change.steps ∙ before.shape.steps };
      so_far = taken_more c.args.problem.now (slice_index c.args.solved.now.flow.items) c.loop-store.plan
          c.set.new.self c.args.step c.loop-store.store c.taken-blocks.result before.shape c.requires.step
          (omega arith) before.so_far change c.taken-blocks.ensures.taken;
    }

pub returns-clause-after : goal.returns-clause-after
returns-clause-after c =
    taken_step c.args.problem.now (slice_index c.args.solved.now.flow.items) (amount c.loop-store.plan) c.args.step
    c.loop-store.store (omega arith) c.loop-store.invariant.so_far
