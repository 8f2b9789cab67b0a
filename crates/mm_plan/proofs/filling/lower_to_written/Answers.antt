use Rattle.std.proofs.Common.{◌≡◌, ◌-◌, ◌<◌, min, length, refl, arith}
use Rattle.mm_plan.specs.Table.{amount}
use Rattle.mm_plan.specs.Volumes.{written}
use Rattle.mm_plan.proofs.Steps.{left_most}
use Rattle.mm_plan.proofs.Lowering.{shape_kept, lowered_more, lowered_all}
use Rattle.mm_plan.proofs.filling.lower_to_written.Goals as goal

pub overflow_add-there : goal.overflow_add-there
overflow_add-there c =
    let below : c.loop-store.store < length c.args.problem.now.rows = omega arith in
    let is = c.loop-store.invariant.lowered.before c.loop-store.store below (omega arith) in
    let most = left_most c.args.problem.now (amount c.args.plan.now) c.loop-store.store (c.args.step - 1) c.stores-store-end.ensures.is_dumping below in
    omega (arith, is, most)

pub loop-store-preserved : goal.loop-store-preserved
loop-store-preserved c =
    let below : c.loop-store.store < length c.args.problem.now.rows = omega arith in
    let before = c.loop-store.invariant.lowered.before c.loop-store.store below (omega arith) in
    let given = c.loop-store.invariant.lowered.rest c.loop-store.store below (omega arith) in
    let is_written : c.can_leave-written.result ≡ written c.args.problem.now (amount c.args.plan.now) c.loop-store.store c.args.step = rw (c.can_leave-written.ensures.blocks, c.come-come.ensures.come, c.size_in.ensures.size, c.arrivals.ensures.arrivals, before) refl in
    let cut : c.min-blocks.result ≡ min (amount c.args.plan.now c.loop-store.store c.args.step) (written c.args.problem.now (amount c.args.plan.now) c.loop-store.store c.args.step) = omega (arith, given, is_written) in
    record {
      shape = shape_kept c.args.problem.now c.loop-store.plan c.set.new.self c.loop-store.store c.args.step c.min-blocks.result c.loop-store.invariant.shape c.set.ensures.changed;
      lowered = lowered_more c.args.problem.now (amount c.args.plan.now) c.loop-store.plan c.set.new.self c.args.step c.loop-store.store c.min-blocks.result (c.can_leave-written.result - c.min-blocks.result) c.loop-store.left c.loop-store.invariant.shape c.loop-store.invariant.lowered c.set.ensures.changed below c.requires.first c.requires.last (omega arith) cut (omega (arith, is_written, cut));
    }

pub returns-clause-split : goal.returns-clause-split
returns-clause-split c =
    let all : c.loop-store.store ≡ length c.args.problem.now.rows = omega arith in
    lowered_all c.args.problem.now (amount c.args.plan.now) (amount c.loop-store.plan) c.args.step c.loop-store.left c.requires.first c.requires.last (rw all at c.loop-store.invariant.lowered)
