use Rattle.std.proofs.Common.{◌≡◌, ◌+◌, ◌≤◌, length, arith}
use Rattle.mm_plan.specs.Table.{amount}
use Rattle.mm_plan.proofs.Fills.{done_start, lowered_fits, done_more, done_fits, done_no_worse}
use Rattle.mm_plan.proofs.filling.fill.Goals as goal

pub loop-step-init : goal.loop-step-init
loop-step-init c = rw c.in_ok-filled.ensures (record {
  shape = c.requires.shape;
  places = c.starts-left.ensures.places;
  done = done_start c.args.problem.now (amount c.args.plan.now) c.starts-left.result c.starts-left.ensures.starts;
})

pub use_rest-requires-clause-fits : goal.use_rest-requires-clause-fits
use_rest-requires-clause-fits c =
    let last : c.loop-step.step ≤ length c.args.problem.now.windows = omega arith in
    let fits = c.requires.fits c.loop-step.step (omega arith) (omega arith) in
    lowered_fits c.args.problem.now (amount c.args.plan.now) (amount c.loop-step.filled) (amount c.lower_to_written.new.plan) c.loop-step.step c.loop-step.left last c.loop-step.invariant.done c.lower_to_written.ensures.lowered fits

pub loop-step-preserved : goal.loop-step-preserved
loop-step-preserved c = record {
  shape = c.use_rest.ensures.shape;
  places = omega arith;
  done = done_more c.args.problem.now (amount c.args.plan.now) (amount c.loop-step.filled) (amount c.lower_to_written.new.plan) (amount c.use_rest.new.plan) c.loop-step.step c.loop-step.left c.use_rest.new.left c.hold.new.left (omega arith) (omega arith) c.loop-step.invariant.done c.lower_to_written.ensures.others c.lower_to_written.ensures.lowered c.use_rest.ensures.filled c.hold.ensures.held;
}

pub returns-clause-fits : goal.returns-clause-fits
returns-clause-fits c =
    let all : c.loop-step.step ≡ length c.args.problem.now.windows + 1 =
    omega (arith, c.loop-step.auto.step-end (omega arith)) in
    done_fits c.args.problem.now (amount c.args.plan.now) (amount c.loop-step.filled) c.loop-step.step c.loop-step.left all c.loop-step.invariant.done

pub returns-clause-no_worse : goal.returns-clause-no_worse
returns-clause-no_worse c =
    let all : c.loop-step.step ≡ length c.args.problem.now.windows + 1 =
    omega (arith, c.loop-step.auto.step-end (omega arith)) in
    done_no_worse c.args.problem.now (amount c.args.plan.now) (amount c.loop-step.filled) c.loop-step.step c.loop-step.left all c.loop-step.invariant.done
