use Rattle.std.proofs.Common.{◌≡◌, ◌<◌, length, arith}
use Rattle.mm_base.proofs.RangeSums.{term-le-sum_by_range}
use Rattle.mm_plan.specs.Fit.{in_step}
use Rattle.mm_plan.specs.Table.{amount}
use Rattle.mm_plan.proofs.Lowering.{shape_kept}
use Rattle.mm_plan.proofs.Raises.{rest_fits, window_most}
use Rattle.mm_plan.proofs.Rests.{served_more, served_all}
use Rattle.mm_plan.proofs.filling.use_rest.Goals as goal

pub raise-requires-clause-most : goal.raise-requires-clause-most
raise-requires-clause-most c =
    let below : c.loop-store.store < length c.args.problem.now.rows = omega arith in
    let within = term-le-sum_by_range (in_step (amount c.loop-store.plan) c.args.step) 0
    (length c.args.problem.now.rows) c.loop-store.store (omega arith) (omega arith) in
    let window = window_most c.args.problem.now c.args.step c.stores-store-end.ensures.is_dumping c.requires.first
    c.requires.last in
    omega (arith, within, window, c.loop-store.invariant.rest.windowed)

pub loop-store-preserved : goal.loop-store-preserved
loop-store-preserved c =
    let below : c.loop-store.store < length c.args.problem.now.rows = omega arith in
    let fits = rest_fits c.args.problem.now (amount c.raise.new.plan) c.args.step c.raise.new.rest.idle c.raise.new.rest.by_channel c.stores-store-end.ensures.is_dumping c.raise.ensures.rest in
    record {
      shape = shape_kept c.args.problem.now c.loop-store.plan c.raise.new.plan c.loop-store.store c.args.step _ c.loop-store.invariant.shape c.raise.ensures.changed;
      rest = c.raise.ensures.rest;
      served = served_more c.args.problem.now (amount c.args.plan.now) c.loop-store.plan c.raise.new.plan c.args.step c.loop-store.store c.raise.result c.loop-store.left c.loop-store.invariant.shape c.loop-store.invariant.served c.raise.ensures.changed below c.requires.first c.requires.last (omega arith) c.raise.ensures.least fits c.raise.ensures.used;
    }

pub returns-clause-filled : goal.returns-clause-filled
returns-clause-filled c =
    let all : c.loop-store.store ≡ length c.args.problem.now.rows = omega arith in
    served_all c.args.problem.now (amount c.args.plan.now) (amount c.loop-store.plan) c.args.step c.loop-store.left c.requires.first c.requires.last (rw all at c.loop-store.invariant.served)
